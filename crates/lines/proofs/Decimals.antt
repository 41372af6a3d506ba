-- THE DECIMAL FORM: it reads back as the number, each of its bytes is a digit, it has no leading zero, and it is one to twenty digits long. Assumes nothing.
use mathlib.Core.Path.{◌≡◌, refl}
use mathlib.Core.List.{List, [], ◌∷◌, ◌++◌}
use mathlib.Core.Logic.{◌≢◌}
use Prim.Native.Nat.{ℕ, zero, suc, ◌+◌, ◌-◌, ◌*◌, ◌/◌, ◌^◌, ◌≤◌, ◌<◌}
use native.Mathlib.Omega.{arith}
use lib.ListN.{length, get_or, length-append}
use Rattle.lines.specs.Decimal.{most_digits, digit, digits_in, decimal, value_from, value_of, Digits}
use Rattle.lines.proofs.DecimalLaws.{by_size, tenth_below, digits_some}

-- IT READS BACK

-- what two rows say, one behind the other: the second from what the first said on
value_append : (n : ℕ) (xs ys : List ℕ) → value_from n (xs ++ ys) ≡ value_from (value_from n xs) ys
value_append n [] ys = refl
value_append n (x ∷ xs) ys = value_append (n * 10 + (x - digit 0)) xs ys

-- with enough digits for the number
digits_value : (k n : ℕ) → n < 10 ^ k → value_of (digits_in k n) ≡ n
digits_value zero n h = omega arith
digits_value (suc k) n h =
    by_size
    (λ ds. value_of ds ≡ n)
    k
    n
    (λ s. omega arith)
    (λ l. rw (value_append, digits_value k (n / 10) (tenth_below k n h)) (omega arith))

-- what the text says is the number
pub decimal_value : (n : ℕ) → n < 10 ^ most_digits → value_of (decimal n) ≡ n
unfolding decimal
decimal_value n h = digits_value most_digits n h

-- ITS BYTES

-- digits behind digits are digits
digits_append : (xs ys : List ℕ) → Digits xs → Digits ys → Digits (xs ++ ys)
digits_append [] ys p q = q
digits_append (x ∷ xs) ys p q = (p.0, p.1, digits_append xs ys p.2 q)

-- however many are asked for
digits_digits : (k n : ℕ) → Digits (digits_in k n)
digits_digits zero n = tt
digits_digits (suc k) n =
    by_size
    Digits
    k
    n
    (λ s. (omega arith, omega arith, tt))
    (λ l. digits_append (digits_in k (n / 10)) _ (digits_digits k (n / 10)) (omega arith, omega arith, tt))

-- each is one of `0` to `9`
pub decimal_digits : (n : ℕ) → Digits (decimal n)
unfolding decimal
decimal_digits n = digits_digits most_digits n

-- NO LEADING ZERO

-- the first of two rows has the first digit
first_append : (xs ys : List ℕ) → digit 1 ≤ get_or xs 0 0 → digit 1 ≤ get_or (xs ++ ys) 0 0
first_append [] ys h = absurd (omega arith)
first_append (x ∷ xs) ys h = h

-- the first digit of a number that is not 0 is not 0
digits_first : (k n : ℕ) → 1 ≤ n → n < 10 ^ k → digit 1 ≤ get_or (digits_in k n) 0 0
digits_first zero n p h = absurd (omega arith)
digits_first (suc k) n p h =
    by_size
    (λ ds. digit 1 ≤ get_or ds 0 0)
    k
    n
    (λ s. omega arith)
    (λ l. first_append (digits_in k (n / 10)) _ (digits_first k (n / 10) (omega arith) (tenth_below k n h)))

-- only 0 begins with the digit 0: no leading zero
pub decimal_first : (n : ℕ) → 1 ≤ n → n < 10 ^ most_digits → get_or (decimal n) 0 0 ≢ digit 0
unfolding decimal
decimal_first n p h e = omega (arith, digits_first most_digits n p h)

-- HOW MANY DIGITS

-- as many as asked for at most
digits_length : (k n : ℕ) → length (digits_in k n) ≤ k
digits_length zero n = omega arith
digits_length (suc k) n =
    by_size (λ ds. length ds ≤ suc k) k n (λ s. omega arith) (λ l. simp length-append (omega (arith, digits_length k (n / 10))))

-- one to twenty
pub decimal_length : (n : ℕ) → (1 ≤ length (decimal n)) × (length (decimal n) ≤ most_digits)
unfolding decimal
decimal_length n = (digits_some 19 n, digits_length most_digits n)
