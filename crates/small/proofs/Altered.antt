-- A list with one entry changed: that the code's store is that change, what is read of it, and what it keeps. Over any elements. Assumes nothing.
use mathlib.Core.Path.{◌≡◌, refl, sym, ap}
use mathlib.Core.Bool.{Bool, true, false}
use mathlib.Core.List.{List, [], ◌∷◌}
use Prim.Native.Nat.{ℕ, zero, suc, ◌≤◌, ◌<◌}
use native.Mathlib.Omega.{arith}
use lib.Dec.{eqb}
use lib.ListN.{length, get_or, set}
use borrow.Author.Tests.{eqb-true, eqb-false}
use Rattle.small.specs.Small.{pick, alter}

module _ {A : Type 0} (f : A → A) where
  -- an entry read, changed and stored again; z is what a place past the end would hold
  pub set_alter : (xs : List A) (i : ℕ) (z : A) → i < length xs → set xs i (f (get_or xs i z)) ≡ alter f xs i
  set_alter [] i z h = refl
  set_alter (x ∷ xs) zero z h = refl
  set_alter (x ∷ xs) (suc i) z h = ap {B = List A} (λ l. x ∷ l) (set_alter xs i z (omega arith))

  pub length_alter : (xs : List A) (i : ℕ) → length (alter f xs i) ≡ length xs
  length_alter [] i = refl
  length_alter (x ∷ xs) zero = refl
  length_alter (x ∷ xs) (suc i) = ap suc (length_alter xs i)

  pub get_or_alter_same : (xs : List A) (i : ℕ) (d : A) → i < length xs → get_or (alter f xs i) i d ≡ f (get_or xs i d)
  get_or_alter_same [] i d h = absurd (omega arith)
  get_or_alter_same (x ∷ xs) zero d h = refl
  get_or_alter_same (x ∷ xs) (suc i) d h = get_or_alter_same xs i d (omega arith)

  pub get_or_alter_other : (xs : List A) (i j : ℕ) (d : A) → (j ≡ i → ⊥) → get_or (alter f xs i) j d ≡ get_or xs j d
  get_or_alter_other [] i j d h = refl
  get_or_alter_other (x ∷ xs) zero zero d h = absurd (h refl)
  get_or_alter_other (x ∷ xs) zero (suc j) d h = refl
  get_or_alter_other (x ∷ xs) (suc i) zero d h = refl
  get_or_alter_other (x ∷ xs) (suc i) (suc j) d h = get_or_alter_other xs i j d λ e. h (ap suc e)

  pub alter_past : (xs : List A) (i : ℕ) → length xs ≤ i → alter f xs i ≡ xs
  alter_past [] i h = refl
  alter_past (x ∷ xs) zero h = absurd (omega arith)
  alter_past (x ∷ xs) (suc i) h = ap {B = List A} (λ l. x ∷ l) (alter_past xs i (omega arith))

  pub read_altered : (xs : List A) (i j : ℕ) (d : A) → j < length xs → get_or (alter f xs i) j d ≡ pick (eqb i j) (f (get_or xs j d)) (get_or xs j d)
  read_altered xs i j d l = go (eqb i j) refl
    where
      go : (b : Bool) → eqb i j ≡ b → get_or (alter f xs i) j d ≡ pick b (f (get_or xs j d)) (get_or xs j d)
      go true e = let k : i ≡ j = eqb-true i j e in rw k (get_or_alter_same xs j d l)
      go false e = get_or_alter_other xs i j d λ z. eqb-false i j e (sym z)

  -- what the change keeps of an element stays at every place
  pub alter_keeps : {B : Type 0} (g : A → B) → ((x : A) → g (f x) ≡ g x) → (xs : List A) (k i : ℕ) (d : A) → g (get_or (alter f xs k) i d) ≡ g (get_or xs i d)
  alter_keeps g e [] k i d = refl
  alter_keeps g e (x ∷ xs) zero zero d = e x
  alter_keeps g e (x ∷ xs) zero (suc i) d = refl
  alter_keeps g e (x ∷ xs) (suc k) zero d = refl
  alter_keeps g e (x ∷ xs) (suc k) (suc i) d = alter_keeps g e xs k i d
