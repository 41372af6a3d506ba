-- What each element of a list gives, one behind the other (`each`): of one more, and how long it is. Over any elements. Assumes nothing.
use mathlib.Core.Path.{◌≡◌, refl}
use mathlib.Core.List.{List, [], ◌∷◌, ◌++◌, append_assoc, append-nil}
use Prim.Native.Nat.{ℕ, zero, suc, ◌+◌, ◌*◌, ◌≤◌, ◌<◌}
use native.Mathlib.Nat.{mul-suc, not-suc-le-zero}
use native.Mathlib.Numerals.{add-one}
use native.Mathlib.Omega.{arith}
use lib.ListN.{length, take, get_or, length-append}
use lib.Seq.{take-suc}
use Rattle.small.specs.Small.{each, All}
use Rattle.small.proofs.All.{all_of}

module _ {A : Type 0} (f : A → List ℕ) where
  pub each_append : (xs ys : List A) → each f (xs ++ ys) ≡ each f xs ++ each f ys
  each_append [] ys = refl
  each_append (x ∷ xs) ys = rw (each_append xs ys, append_assoc)

  -- one more
  pub each_more : (xs : List A) (i : ℕ) (z : A) → i < length xs → each f (take (i + 1) xs) ≡ each f (take i xs) ++ f (get_or xs i z)
  each_more xs i z h = rw (add-one, take-suc xs i z, each_append, append-nil)

  pub length_more : (xs : List A) (i : ℕ) (z : A) → i < length xs → length (each f (take (i + 1) xs)) ≡ length (each f (take i xs)) + length (f (get_or xs i z))
  length_more xs i z h = rw (each_more xs i z h, length-append)

  -- fewer are not longer
  pub length_fewer : (xs : List A) (i n : ℕ) → i ≤ n → length (each f (take i xs)) ≤ length (each f (take n xs))
  length_fewer xs zero n h = omega arith
  length_fewer xs (suc i) zero h = absurd (not-suc-le-zero h)
  length_fewer [] (suc i) (suc n) h = omega arith
  length_fewer (x ∷ xs) (suc i) (suc n) h = simp length-append (omega (arith, length_fewer xs i n (omega arith)))

  -- each gives k
  abbrev pub Sizes : ℕ → List A → Type 0
  Sizes k xs = All (λ x. length (f x) ≡ k) xs

  pub sizes_of : (k : ℕ) → ((x : A) → length (f x) ≡ k) → (xs : List A) → Sizes k xs
  sizes_of k h xs = all_of h xs

  pub each_length : (k : ℕ) (xs : List A) → Sizes k xs → length (each f xs) ≡ k * length xs
  each_length k [] a = omega arith
  each_length k (x ∷ xs) a = rw (length-append, a.0, each_length k xs a.1) (omega (arith, mul-suc k (length xs)))
