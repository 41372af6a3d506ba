-- Laws of the lines of a batch: those of one answer more end with its line, where there are fewer answers than asked for all are written, and no line is
-- longer than its room. Assumes nothing.
use mathlib.Core.Path.{◌≡◌, refl, sym, ap, ◌∙◌}
use mathlib.Core.List.{List, [], ◌∷◌, ◌++◌, append_assoc, append-nil}
use Prim.Native.Nat.{ℕ, zero, suc, ◌+◌, ◌*◌, ◌≤◌, ◌<◌, min}
use native.Mathlib.Nat.{add-zero, le_of_suc-le-suc, not-suc-le-zero}
use native.Mathlib.Decide.{dec_le}
use native.Mathlib.Omega.{arith}
use lib.ListN.{length, length-append, take, get_or}
use lib.Seq.{length-take-le}
use Rattle.state.specs.declared.Choice.{Choice}
use Rattle.state.specs.declared.Choice.TheVariants.{Idle, Burning, Running}
use Rattle.scheduler.specs.declared.Answer.{Answer}
use Rattle.lines.specs.Decimal.{decimal}
use Rattle.lines.specs.Lines.{newline, room, mark_text, dash_text, choice_text, tick_line, answer_lines}
use Rattle.lines.proofs.Decimals.{decimal_length}

-- what an answer past the last is read as
abbrev pub zero_answer : Answer
zero_answer = record { choice = Idle; handled = 0 }

-- one line more
pub lines_more : (n i : ℕ) (xs : List Answer) (d : Answer) → i < length xs
    → answer_lines n (suc i) xs ≡ answer_lines n i xs ++ tick_line (n + i) (get_or xs i d).choice
lines_more n i [] d h = absurd (not-suc-le-zero h)
lines_more n zero (x ∷ xs) d h = rw (add-zero, append-nil)
lines_more n (suc i) (x ∷ xs) d h =
    let e : n + suc i ≡ suc n + i = omega arith in
    let first = tick_line n x.choice in
    let more = ap (λ (ys : List ℕ). first ++ ys) (lines_more (suc n) i xs d (le_of_suc-le-suc h)) in
    rw e (more ∙ sym (append_assoc first (answer_lines (suc n) i xs) _))

-- past the last answer there is no line
lines_all : (n k : ℕ) (xs : List Answer) → length xs ≤ k → answer_lines n k xs ≡ answer_lines n (length xs) xs
lines_all n zero [] h = refl
lines_all n (suc k) [] h = refl
lines_all n zero (x ∷ xs) h = absurd (not-suc-le-zero h)
lines_all n (suc k) (x ∷ xs) h = ap (λ (ys : List ℕ). tick_line n x.choice ++ ys) (lines_all (suc n) k xs (le_of_suc-le-suc h))

-- as many as asked for, or all
pub lines_least : (n k m : ℕ) (xs : List Answer) → length xs ≡ m → answer_lines n k xs ≡ answer_lines n (min k m) xs
lines_least n k m xs l = go (dec_le k m)
  where
    go : Dec (k ≤ m) → answer_lines n k xs ≡ answer_lines n (min k m) xs
    go (yes h) = let e : min k m ≡ k = omega arith in rw e
    go (no h) = let e : min k m ≡ length xs = omega arith in rw e (lines_all n k xs (omega arith))

-- those of the answers up to a place are those up to there of all
lines_take : (n k : ℕ) (xs : List Answer) → answer_lines n k (take k xs) ≡ answer_lines n k xs
lines_take n zero xs = refl
lines_take n (suc k) [] = refl
lines_take n (suc k) (x ∷ xs) = ap (λ (ys : List ℕ). tick_line n x.choice ++ ys) (lines_take (suc n) k xs)

-- as many as asked for, or all: the lines of the answers that are cut there, which is what the program hands over
pub cut_lines : (n k : ℕ) (xs : List Answer) → let cut = take (min k (length xs)) xs in answer_lines n (length cut) cut ≡ answer_lines n k xs
cut_lines n k xs =
    let m = min k (length xs) in
    let e : length (take m xs) ≡ m = length-take-le m xs (omega arith) in
    rw e (lines_take n m xs ∙ sym (lines_least n k (length xs) xs refl))

-- HOW LONG THEY ARE

-- the length of a line, where the choice is known
pub line_length : (n : ℕ) (c d : Choice) → c ≡ d → length (tick_line n c) ≡ length (decimal n) + length (choice_text d)
line_length n c d e = rw e (length-append (decimal n) (choice_text d))

pub burning_length : (i : ℕ) → length (choice_text (Burning i)) ≡ length (mark_text i) + 3
burning_length i = length-append (mark_text i) (dash_text ++ (newline ∷ []))

pub running_length : (i j : ℕ) → length (choice_text (Running i j)) ≡ length (mark_text i) + (length (mark_text j) + 1)
running_length i j = simp length-append

choice_length : (c : Choice) → length (choice_text c) ≤ 43
choice_length Idle = omega arith
choice_length (Burning i) = simp length-append (omega (arith, decimal_length i))
choice_length (Running i j) = simp length-append (omega (arith, decimal_length i, decimal_length j))

-- no line is longer than its room
pub tick_length : (n : ℕ) (c : Choice) → length (tick_line n c) ≤ room
tick_length n c = simp length-append (omega (arith, decimal_length n, choice_length c))

-- nor are k of them
pub lines_length : (n k : ℕ) (xs : List Answer) → length (answer_lines n k xs) ≤ room * k
lines_length n zero xs = omega arith
lines_length n (suc k) [] = omega arith
lines_length n (suc k) (x ∷ xs) =
    rw (length-append (tick_line n x.choice) (answer_lines (suc n) k xs)) (omega (arith, tick_length n x.choice, lines_length (suc n) k xs))

-- those of the first i are no longer than those of more
pub lines_fewer : (n i k : ℕ) (xs : List Answer) → i ≤ k → length (answer_lines n i xs) ≤ length (answer_lines n k xs)
lines_fewer n zero k xs h = omega arith
lines_fewer n (suc i) zero xs h = absurd (not-suc-le-zero h)
lines_fewer n (suc i) (suc k) [] h = omega arith
lines_fewer n (suc i) (suc k) (x ∷ xs) h = simp length-append (omega (arith, lines_fewer (suc n) i k xs (le_of_suc-le-suc h)))

-- and with the next line they are still among those of k
pub lines_next : (n i k : ℕ) (xs : List Answer) (d : Answer) → i < k → i < length xs
    → length (answer_lines n i xs) + length (tick_line (n + i) (get_or xs i d).choice) ≤ length (answer_lines n k xs)
lines_next n i k xs d h l =
    let line = tick_line (n + i) (get_or xs i d).choice in
    let more = length-append (answer_lines n i xs) line in
    let e : length (answer_lines n (suc i) xs) ≡ length (answer_lines n i xs) + length line = rw (lines_more n i xs d l) more in
    omega (arith, lines_fewer n (suc i) k xs h)
