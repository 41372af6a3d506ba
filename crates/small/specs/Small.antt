-- The small definitions that all others are written with.
use Rattle.std.specs.Prelude.{Bool, true, false, List, [], ◌∷◌, ◌++◌, ℕ, zero, suc, ◌+◌, ◌-◌, length, replicate}

-- the first where the test holds, else the second
abbrev pub pick {ℓ} : {A : Type ℓ} → Bool → A → A → A
pick true a b = a
pick false a b = b

abbrev pub both : Bool → Bool → Bool
both true b = b
both false b = false

-- a list, filled up with z to n elements
abbrev pub padded {ℓ} : {A : Type ℓ} → A → ℕ → List A → List A
padded z n xs = xs ++ replicate (n - length xs) z

-- a list with one entry changed, or as it is where there is no such entry
abbrev pub alter {ℓ} : {A : Type ℓ} → (A → A) → List A → ℕ → List A
alter f [] i = []
alter f (x ∷ xs) zero = f x ∷ xs
alter f (x ∷ xs) (suc i) = x ∷ alter f xs i

-- the first n entries pass the first test, the others the second
abbrev pub usedb : {A : Type 0} → (A → Bool) → (A → Bool) → List A → ℕ → Bool
usedb good none [] n = true
usedb good none (x ∷ xs) zero = both (none x) (usedb good none xs zero)
usedb good none (x ∷ xs) (suc n) = both (good x) (usedb good none xs n)

-- it holds of each
abbrev pub All : {A : Type 0} → (A → Type 0) → List A → Type 0
All P [] = Unit
All P (x ∷ xs) = P x × All P xs

-- what each gives, one behind the other: bytes of a file, words of memory
abbrev pub each : {A : Type 0} → (A → List ℕ) → List A → List ℕ
each f [] = []
each f (x ∷ xs) = f x ++ each f xs

-- f 0 + f 1 + .. + f (n - 1)
unfoldable pub sum_below : (ℕ → ℕ) → ℕ → ℕ
sum_below f zero = 0
sum_below f (suc n) = sum_below f n + f n

-- 1 where the test holds
abbrev pub num : Bool → ℕ
num b = pick b 1 0

-- how many of these pass a test
unfoldable pub tally : {A : Type 0} → (A → Bool) → List A → ℕ
tally p [] = 0
tally p (x ∷ xs) = num (p x) + tally p xs
