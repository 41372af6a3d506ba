-- Laws of the decimal form that serve those who write one: case by case, how many digits a number has, and its digits from the last on. Assumes nothing.
use mathlib.Core.Path.{◌≡◌, refl, ap}
use mathlib.Core.Bool.{Bool, true, false}
use mathlib.Core.List.{List, [], ◌∷◌, ◌++◌, append_assoc}
use Prim.Native.Nat.{ℕ, zero, suc, ◌+◌, ◌-◌, ◌/◌, ◌%◌, ◌^◌, ◌≤◌, ◌<◌}
use native.Mathlib.Nat.{one-le-pow, pow-suc}
use native.Mathlib.Numerals.{add-one}
use native.Mathlib.Omega.{arith}
use lib.Dec.{ltb}
use lib.ListN.{length, drop, set, length-append}
use borrow.Author.Tests.{ltb-true, ltb-false, lt-ltb, le-ltb}
use Rattle.std.proofs.lemmas.List.{drop-set}
use Rattle.small.specs.Small.{pick}
use Rattle.lines.specs.Decimal.{most_digits, digit, digits_in, decimal}
use Rattle.lines.specs.Lines.{mark_text}

-- BY CASES: what holds of one digit, and of those of the tenth part with the digit that is left, holds of all
pub by_size : (P : List ℕ → Type 0) (k n : ℕ)
    → (n < 10 → P (digit n ∷ []))
    → (10 ≤ n → P (digits_in k (n / 10) ++ (digit (n % 10) ∷ [])))
    → P (digits_in (suc k) n)
by_size P k n small large = go (ltb n 10) refl
  where
    go : (b : Bool) → ltb n 10 ≡ b → P (pick b (digit n ∷ []) (digits_in k (n / 10) ++ (digit (n % 10) ∷ [])))
    go true e = small (ltb-true n 10 e)
    go false e = large (ltb-false n 10 e)

-- the tenth part is below a power of ten less
pub tenth_below : (k n : ℕ) → n < 10 ^ suc k → n / 10 < 10 ^ k
tenth_below k n h = let e = pow-suc 10 k in omega arith

-- and where the number is from a power of ten on, its tenth part is from the power before it on
tenth_from : (k n : ℕ) → 10 ^ suc k ≤ n → 10 ^ k ≤ n / 10
tenth_from k n h = let e = pow-suc 10 k in omega arith

-- a power of ten is never 0
ten_positive : (k : ℕ) → 1 ≤ 10 ^ k
ten_positive k = one-le-pow k 10 (omega arith)

-- every number of 64 bits has no more than the most digits
pub word_below : (n : ℕ) → n < 2 ^ 64 → n < 10 ^ most_digits
word_below n h = omega arith

-- a number has at least one digit
pub digits_some : (k n : ℕ) → 1 ≤ length (digits_in (suc k) n)
digits_some k n = by_size (λ ds. 1 ≤ length ds) k n (λ s. omega arith) (λ l. simp length-append (omega arith))

-- below a power of ten no more than its exponent says
digits_below : (k m n : ℕ) → n < 10 ^ suc m → length (digits_in k n) ≤ suc m
digits_below zero m n h = omega arith
digits_below (suc k) zero n h = by_size (λ ds. length ds ≤ 1) k n (λ s. omega arith) (λ l. absurd (omega arith))
digits_below (suc k) (suc m) n h =
    by_size
    (λ ds. length ds ≤ suc (suc m))
    k
    n
    (λ s. omega arith)
    (λ l. simp length-append (omega (arith, digits_below k m (n / 10) (tenth_below (suc m) n h))))

-- from a power of ten on more than its exponent says
digits_from : (k m n : ℕ) → m ≤ k → 10 ^ m ≤ n → suc m ≤ length (digits_in (suc k) n)
digits_from k zero n b h = digits_some k n
digits_from zero (suc m) n b h = absurd (omega arith)
digits_from (suc k) (suc m) n b h =
    by_size
    (λ ds. suc (suc m) ≤ length ds)
    (suc k)
    n
    (λ s. absurd (omega (arith, tenth_from m n h, ten_positive m)))
    (λ l. simp length-append (omega (arith, digits_from k m (n / 10) (omega arith) (tenth_from m n h))))

-- up to 9 one, which is the number
pub decimal_one : (n : ℕ) → n ≤ 9 → decimal n ≡ digit n ∷ []
unfolding decimal
decimal_one n h = let s : n < 10 = omega arith in rw (lt-ltb n 10 s)

-- a byte has three at most
pub decimal_byte : (n : ℕ) → n < 256 → length (decimal n) ≤ 3
unfolding decimal
decimal_byte n h = digits_below most_digits 2 n (omega arith)

-- and four with the space before them
pub mark_length : (n : ℕ) → n < 256 → length (mark_text n) ≤ 4
mark_length n h = omega (arith, decimal_byte n h)

-- k, where the number is below the power k of ten and not below the power before it; 0 has one too
pub decimal_places : (k n : ℕ) → 1 ≤ k → k ≤ most_digits → (2 ≤ k → 10 ^ (k - 1) ≤ n) → n < 10 ^ k → length (decimal n) ≡ k
unfolding decimal
decimal_places zero n a b l h = absurd (omega arith)
decimal_places (suc zero) n a b l h = omega (arith, digits_below most_digits 0 n h, digits_some 19 n)
decimal_places (suc (suc k)) n a b l h =
    let e : suc (suc k) - 1 ≡ suc k = omega arith in
    omega (arith, digits_below most_digits (suc k) n h, digits_from 19 (suc k) n (omega arith) (rw e at (l (omega arith))))

-- how many digits are asked for does not matter once the number has no more
pub digits_enough : (k m n : ℕ) → n < 10 ^ suc k → n < 10 ^ suc m → digits_in (suc k) n ≡ digits_in (suc m) n
digits_enough zero m n p q = let s : n < 10 = omega arith in rw (lt-ltb n 10 s)
digits_enough (suc k) zero n p q = let s : n < 10 = omega arith in rw (lt-ltb n 10 s)
digits_enough (suc k) (suc m) n p q =
    let e = digits_enough k m (n / 10) (tenth_below (suc k) n p) (tenth_below (suc m) n q) in
    ap (λ (ds : List ℕ). pick (ltb n 10) (digit n ∷ []) (ds ++ (digit (n % 10) ∷ []))) e

-- from 10 on those of the tenth part, and the digit that is left
decimal_more : (n : ℕ) → 10 ≤ n → n < 2 ^ 64 → decimal n ≡ decimal (n / 10) ++ (digit (n % 10) ∷ [])
unfolding decimal
decimal_more n h b =
    rw (le-ltb n 10 h) (ap (λ (ds : List ℕ). ds ++ (digit (n % 10) ∷ [])) (digits_enough 18 19 (n / 10) (omega arith) (omega arith)))

pub more_length : (n : ℕ) → 10 ≤ n → n < 2 ^ 64 → length (decimal n) ≡ length (decimal (n / 10)) + 1
more_length n h b = rw (decimal_more n h b, length-append) refl

-- FROM THE LAST DIGIT ON: the place of the digit that is found next, before those that are written

-- one more is found
pub digit_found : (n at : ℕ) (ds : List ℕ) → 10 ≤ n → n < 2 ^ 64 → at < length ds
    → decimal n ++ drop (at + 1) ds ≡ decimal (n / 10) ++ drop at (set ds at (digit (n % 10)))
digit_found n at ds h b l = rw (decimal_more n h b, append_assoc, drop-set ds at (digit (n % 10)) l) refl

-- and the first
pub first_found : (n at : ℕ) (ds : List ℕ) → n ≤ 9 → at < length ds → decimal n ++ drop (at + 1) ds ≡ drop at (set ds at (digit n))
first_found n at ds h l = rw (decimal_one n h, drop-set ds at (digit n) l) refl

-- THE LOWEST DIGITS, as many as asked for: what is written from the last digit on
abbrev pub lowest : ℕ → ℕ → List ℕ
lowest zero n = []
lowest (suc k) n = lowest k (n / 10) ++ (digit (n % 10) ∷ [])

-- as many as asked for
pub lowest_length : (k n : ℕ) → length (lowest k n) ≡ k
lowest_length zero n = refl
lowest_length (suc k) n = rw (length-append, lowest_length k (n / 10)) (add-one k)

-- the digits of a number are its lowest, as many as it has
digits_lowest : (k n : ℕ) → digits_in k n ≡ lowest (length (digits_in k n)) n
digits_lowest zero n = refl
digits_lowest (suc k) n =
    by_size
    (λ ds. ds ≡ lowest (length ds) n)
    k
    n
    (λ s. let e : n % 10 ≡ n = omega arith in rw e)
    (λ l. rw (length-append, add-one) (ap (λ (ds : List ℕ). ds ++ (digit (n % 10) ∷ [])) (digits_lowest k (n / 10))))

-- and so is its decimal form
pub decimal_lowest : (n : ℕ) → decimal n ≡ lowest (length (decimal n)) n
unfolding decimal
decimal_lowest n = digits_lowest most_digits n
