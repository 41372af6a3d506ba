-- The decimal form of a number, in ASCII: its digits, the most significant first, with no leading zero (proofs/Decimals.antt).
use Rattle.std.specs.Prelude.{List, [], ◌∷◌, ◌++◌, ℕ, zero, suc, ◌+◌, ◌-◌, ◌*◌, ◌/◌, ◌%◌, ◌≤◌, ltb}
use Rattle.small.specs.Small.{pick}

-- as many as the largest number of 64 bits has
abbrev pub most_digits : ℕ
most_digits = 20

abbrev pub digit : ℕ → ℕ
digit d = 48 + d

-- a number below 10 is one digit; another is the digits of its tenth part, and the digit that is left. k is the most digits
abbrev pub digits_in : ℕ → ℕ → List ℕ
digits_in zero n = []
digits_in (suc k) n = pick (ltb n 10) (digit n ∷ []) (digits_in k (n / 10) ++ (digit (n % 10) ∷ []))

unfoldable pub decimal : ℕ → List ℕ
decimal n = digits_in most_digits n

-- WHAT THE PROMISES ABOUT IT SAY

-- what a row of digits says: ten times what the digits before the last say, and the last; n is what those before the row said
abbrev pub value_from : ℕ → List ℕ → ℕ
value_from n [] = n
value_from n (d ∷ ds) = value_from (n * 10 + (d - digit 0)) ds

abbrev pub value_of : List ℕ → ℕ
value_of ds = value_from 0 ds

-- each byte is one of `0` to `9`
abbrev pub Digits : List ℕ → Type 0
Digits [] = Unit
Digits (d ∷ ds) = (digit 0 ≤ d) × (d ≤ digit 9) × Digits ds
