-- Ticks in a row: the state and the answers behind k of them, and what one more gives. Assumes nothing.
use mathlib.Core.Bool.{true}
use mathlib.Core.Path.{◌≡◌, refl, sym, ap, ◌∙◌}
use mathlib.Core.List.{List, [], ◌∷◌, ◌++◌}
use Prim.Native.Nat.{ℕ, zero, suc, ◌+◌, ◌<◌}
use native.Mathlib.Numerals.{add-one}
use native.Mathlib.Omega.{arith}
use lib.ListN.{length, set}
use Rattle.small.specs.Small.{padded}
use Rattle.small.proofs.Padded.{padded_push}
use Rattle.refusal.specs.Refusal.{none}
use Rattle.state.specs.Sound.{stateb}
use Rattle.state.specs.Choice.{choice_of}
use Rattle.state.specs.declared.State.{State}
use Rattle.state.specs.declared.Choice.TheVariants.{Idle}
use Rattle.scheduler.specs.Tick.{state_after, handled_of, ticked_with, tick_of}
use Rattle.scheduler.specs.Run.{batch_size, answer, answers_of, answers_in, state_after_ticks}
use Rattle.scheduler.specs.Tick.{Ticked}
use Rattle.scheduler.specs.declared.Answer.{Answer}
use Rattle.scheduler.specs.Moves.{Ticking}
use Rattle.scheduler.proofs.Keeps.{tick_sound}
use Rattle.scheduler.proofs.KeptSizes.{tick_sized}
use Rattle.scheduler.proofs.TickSound.{tick_accepts}

-- what one tick answers
abbrev answer_of : State → Answer
answer_of s = answer (tick_of s).choice (tick_of s).handled

-- the state behind one more
state_more : (i : ℕ) (s : State) → state_after_ticks (i + 1) s ≡ (tick_of (state_after_ticks i s)).state
state_more i s = rw add-one (go i s)
  where
    go : (i : ℕ) (s : State) → state_after_ticks (suc i) s ≡ (tick_of (state_after_ticks i s)).state
    go zero s = refl
    go (suc i) s = go i (tick_of s).state

answers_length : (i : ℕ) (s : State) → length (answers_of i s) ≡ i
answers_length zero s = refl
answers_length (suc i) s = ap suc (answers_length i (tick_of s).state)

answers_more : (i : ℕ) (s : State) → answers_of (suc i) s ≡ answers_of i s ++ (answer_of (state_after_ticks i s) ∷ [])
answers_more zero s = refl
answers_more (suc i) s = ap {B = List Answer} (λ l. answer_of s ∷ l) (answers_more i (tick_of s).state)

-- the next answer, stored behind the others
answers_stored : (i : ℕ) (s : State) → i < batch_size → set (answers_in i s) i (answer_of (state_after_ticks i s)) ≡ answers_in (i + 1) s
answers_stored i s h =
    let x = answer_of (state_after_ticks i s) in
    let there = ap (λ (k : ℕ). set (answers_in i s) k x) (sym (answers_length i s)) in
    let pushed = padded_push (answer Idle 0) batch_size (answers_of i s) x (omega (arith, answers_length i s)) in
    rw add-one (there ∙ pushed ∙ ap (padded (answer Idle 0) batch_size) (sym (answers_more i s)))

-- a state that ticks does so again
pub tick_kept : (s : State) → Ticking s → Ticking (state_after s)
tick_kept s k = record { sound = tick_sound s k.sound; sized = tick_sized s k.sized }

-- one tick more of a state that is behind k of them
module _ (k : ℕ) (s now : State) (t : stateb now ≡ true) (e : now ≡ state_after_ticks k s) where
  ticked : tick_of (state_after_ticks k s) ≡ ticked_with none (choice_of now) (handled_of now) (state_after now)
  ticked = ap tick_of (sym e) ∙ tick_accepts now t

  pub state_next : state_after now ≡ state_after_ticks (k + 1) s
  state_next = sym (state_more k s ∙ ap (λ (x : Ticked). x.state) ticked)

  pub answer_next : k < batch_size → set (answers_in k s) k (answer (choice_of now) (handled_of now)) ≡ answers_in (k + 1) s
  answer_next h = ap (λ (x : Ticked). set (answers_in k s) k (answer x.choice x.handled)) (sym ticked) ∙ answers_stored k s h
