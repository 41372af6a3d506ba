-- What holds of every element of a list. Assumes nothing.
use mathlib.Core.List.{List, [], ◌∷◌, ◌++◌}
use Prim.Native.Nat.{ℕ, zero, suc, ◌≤◌, ◌<◌}
use native.Mathlib.Omega.{arith}
use lib.ListN.{length, take, get_or, replicate}
use Rattle.small.specs.Small.{All}

-- what holds of every thing holds of each of a list
pub all_of : {A : Type 0} {P : A → Type 0} → ((x : A) → P x) → (xs : List A) → All P xs
all_of h [] = tt
all_of h (x ∷ xs) = (h x, all_of h xs)

pub all_first : {A : Type 0} (P : A → Type 0) (n : ℕ) (xs : List A) → All P xs → All P (take n xs)
all_first P zero xs a = tt
all_first P (suc n) [] a = tt
all_first P (suc n) (x ∷ xs) a = (a.0, all_first P n xs a.1)

pub all_both : {A : Type 0} {P Q R : A → Type 0} → ((x : A) → P x → Q x → R x) → (xs : List A) → All P xs → All Q xs → All R xs
all_both f [] a b = tt
all_both f (x ∷ xs) a b = (f x a.0 b.0, all_both f xs a.1 b.1)

pub all_append : {A : Type 0} (P : A → Type 0) (xs ys : List A) → All P xs → All P ys → All P (xs ++ ys)
all_append P [] ys a b = b
all_append P (x ∷ xs) ys a b = (a.0, all_append P xs ys a.1 b)

pub all_replicate : {A : Type 0} (P : A → Type 0) (n : ℕ) (x : A) → P x → All P (replicate n x)
all_replicate P zero x h = tt
all_replicate P (suc n) x h = (h, all_replicate P n x h)

module _ {A : Type 0} (P : A → Type 0) (z : A) where
  pub all_take : (xs : List A) (n : ℕ) → n ≤ length xs → ((i : ℕ) → i < n → P (get_or xs i z)) → All P (take n xs)
  all_take xs zero l h = tt
  all_take [] (suc n) l h = absurd (omega arith)
  all_take (x ∷ xs) (suc n) l h = (h 0 (omega arith), all_take xs n (omega arith) λ i m. h (suc i) (omega arith))

  pub all_at : (xs : List A) → All P xs → (i : ℕ) → i < length xs → P (get_or xs i z)
  all_at [] a i h = absurd (omega arith)
  all_at (x ∷ xs) a zero h = a.0
  all_at (x ∷ xs) a (suc i) h = all_at xs a.1 i (omega arith)
