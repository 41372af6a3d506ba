-- THE TICKS BATCH BY BATCH ARE THE TICKS ONE BY ONE: what the program writes for the ticks that are left, and the run behind them. Assumes nothing.
use mathlib.Core.Path.{◌≡◌, refl, sym, ap, subst, ◌∙◌}
use mathlib.Core.Bool.{Bool, true, false}
use mathlib.Core.List.{List, [], ◌∷◌, ◌++◌, append_assoc, append-nil}
use Prim.Native.Nat.{ℕ, zero, suc, ◌+◌, ◌-◌, ◌≤◌}
use native.Mathlib.Omega.{arith}
use native.Mathlib.Nat.{zero-add, add-zero, suc-add}
use lib.Dec.{eqb}
use lib.ListN.{length, replicate}
use borrow.Author.Tests.{eqb-true, eqb-false}
use Rattle.small.specs.Small.{pick}
use Rattle.state.specs.Sound.{stateb}
use Rattle.state.specs.declared.Choice.TheVariants.{Idle}
use Rattle.state.specs.declared.State.{State}
use Rattle.scheduler.specs.Tick.{tick_of}
use Rattle.scheduler.specs.Run.{batch_size, answer, answers_of, state_after_ticks}
use Rattle.scheduler.specs.declared.Answer.{Answer}
use Rattle.scheduler.proofs.Keeps.{ticks_sound}
use Rattle.lines.specs.Lines.{tick_line, answer_lines}
use Rattle.desk.specs.Desk.{tick_limit, desk_with, ran_of}
use Rattle.desk.specs.Trace.{left_lines, behind_left, batch_text, batches_text, behind_batches}
use Rattle.desk.specs.declared.Desk.{Desk}
use Rattle.desk.proofs.OneBatch.{size, row, next, batch_is}

-- TICKS IN A ROW

answers_length : (k : ℕ) (s : State) → length (answers_of k s) ≡ k
answers_length zero s = refl
answers_length (suc k) s = ap suc (answers_length k (tick_of s).state)

-- n ticks behind m
answers_join : (m n : ℕ) (s : State) → answers_of (m + n) s ≡ answers_of m s ++ answers_of n (state_after_ticks m s)
answers_join zero n s = ap (λ (k : ℕ). answers_of k s) (zero-add n)
answers_join (suc m) n s =
    rw (suc-add m n) (ap {B = List Answer} (λ l. answer (tick_of s).choice (tick_of s).handled ∷ l) (answers_join m n (tick_of s).state))

states_join : (m n : ℕ) (s : State) → state_after_ticks (m + n) s ≡ state_after_ticks n (state_after_ticks m s)
states_join zero n s = ap (λ (k : ℕ). state_after_ticks k s) (zero-add n)
states_join (suc m) n s = rw (suc-add m n) (states_join m n (tick_of s).state)

-- THEIR LINES

-- those of some answers, then those of others, whose ticks are numbered on
lines_join : (k n : ℕ) (xs ys : List Answer)
    → answer_lines k (length xs + n) (xs ++ ys) ≡ answer_lines k (length xs) xs ++ answer_lines (k + length xs) n ys
lines_join k n [] ys = rw (zero-add n, add-zero k)
lines_join k n (x ∷ xs) ys =
    let e : suc k + length xs ≡ k + suc (length xs) = omega arith in
    let t = tick_line k x.choice in
    rw (suc-add (length xs) n, ← e) (ap (λ (l : List ℕ). t ++ l) (lines_join (suc k) n xs ys) ∙ sym (append_assoc t _ _))

-- what stands behind the answers in a batch's row adds no line
lines_first : (k n : ℕ) (xs ys : List Answer) → length xs ≡ n → answer_lines k n (xs ++ ys) ≡ answer_lines k n xs
lines_first k n xs ys e =
    subst (λ (m : ℕ). answer_lines k m (xs ++ ys) ≡ answer_lines k m xs) e
    (rw (add-zero (length xs), append-nil (answer_lines k (length xs) xs)) at (lines_join k 0 xs ys))

-- ONE BATCH

module _ (d : Desk) where
  all : size d + (d.left - size d) ≡ d.left
  all = omega arith

  -- its lines and those of what is left are the lines of all
  batch_text_lem : answer_lines d.ran (size d) (row d) ++ left_lines (next d) ≡ left_lines d
  batch_text_lem =
      let s = d.state in
      let m = d.left - size d in
      let xs = answers_of (size d) s in
      let n = answers_length (size d) s in
      let first = lines_first d.ran (size d) xs (replicate (batch_size - length xs) (answer Idle 0)) n in
      let joined = rw (n, ← answers_join (size d) m s, all) at (lines_join d.ran m xs (answers_of m (state_after_ticks (size d) s))) in
      ap (λ (l : List ℕ). l ++ left_lines (next d)) first ∙ sym joined

  -- and the run behind both is the run behind all
  batch_behind : behind_left (next d) ≡ behind_left d
  batch_behind =
      let e = sym (states_join (size d) (d.left - size d) d.state) ∙ ap (λ (k : ℕ). state_after_ticks k d.state) all in
      let f : d.ran + size d + (d.left - size d) ≡ d.ran + d.left = omega (arith, all) in
      λ i. desk_with (e i) (f i) 0

-- ALL OF THEM

-- where none is left nothing is written and the run stays
none_left : (d : Desk) → d.left ≡ 0 → ([] ≡ left_lines d) × (d ≡ behind_left d)
none_left d e =
    let n : d.ran ≡ d.ran + d.left = omega arith in
    (rw e, λ i. desk_with (state_after_ticks (sym e i) d.state) (n i) (e i))

abbrev BatchesAre : ℕ → ℕ → Desk → Type 0
BatchesAre f k d = (batches_text f k d ≡ left_lines d) × (behind_batches f d ≡ behind_left d)

-- what the program writes for the ticks that are left is their lines, and the run it comes to is the run behind them; k is where their message stands
pub batches : (f k : ℕ) (d : Desk) → stateb d.state ≡ true → d.ran + d.left ≤ tick_limit → d.left ≤ f
    → (batches_text f k d ≡ left_lines d) × (behind_batches f d ≡ behind_left d)
batches zero k d h l m = none_left d (omega arith)
batches (suc f) k d h l m =
    go (eqb d.left 0) refl (batches f k (next d) (ticks_sound (size d) d.state h) (omega arith))
  where
    go : (b : Bool) → eqb d.left 0 ≡ b → ((next d).left ≤ f → BatchesAre f k (next d)) → let r = ran_of d in
        (pick b [] (batch_text k r (batches_text f k r.desk)) ≡ left_lines d) × (pick b d (behind_batches f r.desk) ≡ behind_left d)
    go true e again = none_left d (eqb-true d.left 0 e)
    go false e again =
        let some : 1 ≤ d.left = omega (arith, eqb-false d.left 0 e) in
        let (text, behind) = again (omega (arith, some)) in
        let lines = answer_lines d.ran (size d) (row d) in
        rw (batch_is d h l) (ap (λ (t : List ℕ). lines ++ t) text ∙ batch_text_lem d, behind ∙ batch_behind d)
