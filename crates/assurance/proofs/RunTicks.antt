-- A run stands for its ticks: its answers are those of single ticks in a row, and where it is refused so are they. Assumes nothing.
use mathlib.Core.Path.{◌≡◌, refl, ap, ◌∙◌}
use mathlib.Core.Bool.{Bool, true, false}
use mathlib.Core.List.{List, ◌∷◌, ◌++◌}
use mathlib.Core.Logic.{◌≢◌}
use Prim.Native.Nat.{ℕ, zero, suc}
use lib.ListN.{take, replicate}
use Rattle.small.proofs.Tests.{contrary}
use Rattle.state.specs.Sound.{stateb}
use Rattle.state.specs.declared.State.{State}
use Rattle.scheduler.specs.Tick.{tick_of}
use Rattle.scheduler.specs.Run.{answers_of, state_after_ticks, ticks_in}
use Rattle.scheduler.specs.declared.Answer.{Answer}
use Rattle.scheduler.proofs.Refusals.{run_accepted}
use Rattle.scheduler.proofs.Answers.{run_done}
use Rattle.scheduler.proofs.Unchanged.{run_unchanged}
use Rattle.scheduler.proofs.Keeps.{tick_sound_accepted, ticked_sound}
use Rattle.assurance.specs.History.{Call, tick, run, Seen, seen, seen_by, ticks_of}
use Rattle.assurance.proofs.Seeing.{seen_tick, unseen_tick}

-- n ticks behind a state, and what comes then

module _ (cs : List Call) where
  seen_ticks : (n : ℕ) (s : State) → stateb s ≡ true → (unused : List Answer)
      → seen_by (take n (answers_of n s ++ unused)) s ++ ticks_of (state_after_ticks n s) cs ≡ ticks_of s (replicate n tick ++ cs)
  seen_ticks zero s h unused = refl
  seen_ticks (suc n) s h unused =
      let rest = seen_ticks n (tick_of s).state (ticked_sound s h) unused in
      rw (seen_tick s h (replicate n tick ++ cs)) (ap {B = List Seen} (λ xs. seen s ∷ xs) rest)

  unseen_ticks : (n : ℕ) (s : State) → (tick_of s).refusal.number ≢ 0 → ticks_of s (replicate n tick ++ cs) ≡ ticks_of s cs
  unseen_ticks zero s r = refl
  unseen_ticks (suc n) s r = unseen_tick s r (replicate n tick ++ cs) ∙ unseen_ticks n s r

-- what is seen from any state on, sound or not, is what is seen where single ticks stand in the run's place
pub run_ticks : (s : State) (k : ℕ) (cs : List Call) → ticks_of s (run k ∷ cs) ≡ ticks_of s (replicate (ticks_in k) tick ++ cs)
unfolding ticks_of
run_ticks s k cs = go (stateb s) refl
  where
    go : (b : Bool) → stateb s ≡ b → ticks_of s (run k ∷ cs) ≡ ticks_of s (replicate (ticks_in k) tick ++ cs)
    go true h = rw (run_done s k ((run_accepted s k).1 h)) (seen_ticks cs (ticks_in k) s h _)
    go false h =
        let r = run_unchanged s k (λ e. contrary ((run_accepted s k).0 e) h) in
        rw (r.0, r.1, unseen_ticks cs (ticks_in k) s (λ e. contrary ((tick_sound_accepted s).0 e) h))
