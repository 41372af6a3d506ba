-- A list whose first n entries pass one test and whose others pass another (`usedb`): what it says of each entry, and what one entry changed keeps of it.
-- Over any elements and any two tests. Assumes nothing.
use mathlib.Core.Path.{◌≡◌, refl, ap}
use mathlib.Core.Bool.{Bool, true}
use mathlib.Core.List.{List, [], ◌∷◌}
use Prim.Native.Nat.{ℕ, zero, suc, ◌≤◌, ◌<◌}
use native.Mathlib.Omega.{arith}
use lib.ListN.{length, get_or}
use Rattle.small.specs.Small.{both, alter, usedb, All}
use Rattle.small.proofs.Tests.{both_left, both_right}

-- with no entry in use the first test is not asked
pub used_none : {A : Type 0} (good other none : A → Bool) (xs : List A) → usedb good none xs 0 ≡ usedb other none xs 0
used_none good other none [] = refl
used_none good other none (x ∷ xs) = ap (both (none x)) (used_none good other none xs)

-- what the test says of each entry; d is what a place past the end would hold
pub record Each {A : Type 0} (good none : A → Bool) (d : A) (xs : List A) (n : ℕ) : Type 0 where
  pub used : (i : ℕ) → i < n → good (get_or xs i d) ≡ true
  pub unused : (i : ℕ) → n ≤ i → i < length xs → none (get_or xs i d) ≡ true

module _ {A : Type 0} (good none : A → Bool) (d : A) where
  -- the test holds exactly when each entry in use is good and each other none
  pub each_from : (xs : List A) (n : ℕ) → n ≤ length xs → usedb good none xs n ≡ true → Each good none d xs n
  each_from [] n l e = record { used = λ i h. absurd (omega arith); unused = λ i m h. absurd (omega arith) }
  each_from (x ∷ xs) zero l e =
      let r = each_from xs zero (omega arith) (both_right (none x) _ e) in
      record { used = λ i h. absurd (omega arith); unused = next r.unused }
    where
      next : ((i : ℕ) → 0 ≤ i → i < length xs → none (get_or xs i d) ≡ true) → (i : ℕ) → 0 ≤ i → i < length (x ∷ xs) → none (get_or (x ∷ xs) i d) ≡ true
      next r zero m h = both_left _ _ e
      next r (suc i) m h = r i (omega arith) (omega arith)
  each_from (x ∷ xs) (suc n) l e =
      let r = each_from xs n (omega arith) (both_right (good x) _ e) in
      record { used = first r.used; unused = next r.unused }
    where
      first : ((i : ℕ) → i < n → good (get_or xs i d) ≡ true) → (i : ℕ) → i < suc n → good (get_or (x ∷ xs) i d) ≡ true
      first r zero h = both_left _ _ e
      first r (suc i) h = r i (omega arith)

      next : ((i : ℕ) → n ≤ i → i < length xs → none (get_or xs i d) ≡ true) → (i : ℕ) → suc n ≤ i → i < length (x ∷ xs) → none (get_or (x ∷ xs) i d) ≡ true
      next r zero m h = absurd (omega arith)
      next r (suc i) m h = r i (omega arith) (omega arith)

  pub each_to : (xs : List A) (n : ℕ) → Each good none d xs n → usedb good none xs n ≡ true
  each_to [] n r = refl
  each_to (x ∷ xs) zero r =
      rw
      (r.unused 0 (omega arith) (omega arith))
      (each_to xs zero record { used = λ i h. absurd (omega arith); unused = λ i m h. r.unused (suc i) (omega arith) (omega arith) })
  each_to (x ∷ xs) (suc n) r =
      rw
      (r.used 0 (omega arith))
      (each_to xs n record { used = λ i h. r.used (suc i) (omega arith); unused = λ i m h. r.unused (suc i) (omega arith) (omega arith) })

-- an entry of a list that is not of the others' kind is in use and good
pub in_use : {A : Type 0} (good none : A → Bool) (d : A) → none d ≡ true → (xs : List A) (n id : ℕ) → usedb good none xs n ≡ true
    → (none (get_or xs id d) ≡ true → ⊥) → (id < n) × (good (get_or xs id d) ≡ true)
in_use good none d z [] n id u h = absurd (h z)
in_use good none d z (x ∷ xs) zero zero u h = absurd (h (both_left _ _ u))
in_use good none d z (x ∷ xs) zero (suc id) u h = absurd (omega (arith, (in_use good none d z xs zero id (both_right (none x) _ u) h).0))
in_use good none d z (x ∷ xs) (suc n) zero u h = (omega arith, both_left _ _ u)
in_use good none d z (x ∷ xs) (suc n) (suc id) u h =
    let r = in_use good none d z xs n id (both_right (good x) _ u) h in
    (omega (arith, r.0), r.1)

-- what holds of every entry that is good, and of every one that is zero, holds of all
pub used_all : {A : Type 0} (P : A → Type 0) (good none : A → Bool) → ((x : A) → good x ≡ true → P x) → ((x : A) → none x ≡ true → P x)
    → (xs : List A) (n : ℕ) → usedb good none xs n ≡ true → All P xs
used_all P good none g z [] n h = tt
used_all P good none g z (x ∷ xs) zero h = (z x (both_left _ _ h), used_all P good none g z xs zero (both_right (none x) _ h))
used_all P good none g z (x ∷ xs) (suc n) h = (g x (both_left _ _ h), used_all P good none g z xs n (both_right (good x) _ h))

-- ONE ENTRY CHANGED

module _ {A : Type 0} (f : A → A) where
  -- the first n entries good and the others none: so they stay
  module _ (good none : A → Bool) (keeps : (x : A) → good x ≡ true → good (f x) ≡ true) where
    -- whichever is changed, where the change keeps both tests
    pub used_any : ((x : A) → none x ≡ true → none (f x) ≡ true) → (xs : List A) (n i : ℕ) → usedb good none xs n ≡ true → usedb good none (alter f xs i) n ≡ true
    used_any z [] n i h = refl
    used_any z (x ∷ xs) zero zero h = rw (z x (both_left _ _ h)) (both_right (none x) _ h)
    used_any z (x ∷ xs) zero (suc i) h = rw (both_left (none x) _ h) (used_any z xs zero i (both_right (none x) _ h))
    used_any z (x ∷ xs) (suc n) zero h = rw (keeps x (both_left _ _ h)) (both_right (good x) _ h)
    used_any z (x ∷ xs) (suc n) (suc i) h = rw (both_left (good x) _ h) (used_any z xs n i (both_right (good x) _ h))

    -- where one in use is changed
    pub used_one : (xs : List A) (n i : ℕ) → i < n → usedb good none xs n ≡ true → usedb good none (alter f xs i) n ≡ true
    used_one [] n i l h = refl
    used_one (x ∷ xs) zero i l h = absurd (omega arith)
    used_one (x ∷ xs) (suc n) zero l h = rw (keeps x (both_left _ _ h)) (both_right (good x) _ h)
    used_one (x ∷ xs) (suc n) (suc i) l h = rw (both_left (good x) _ h) (used_one xs n i (omega arith) (both_right (good x) _ h))
