-- A table's entries, of which the first n are in use: the used and the unused tested apart. Over any elements and any two tests. Assumes nothing.
use mathlib.Core.Path.{◌≡◌, refl, ap, ◌∙◌}
use mathlib.Core.Bool.{Bool, true, false}
use mathlib.Core.List.{List, [], ◌∷◌}
use Prim.Native.Nat.{ℕ, zero, suc, min}
use lib.ListN.{length, take, drop}
use Rattle.std.specs.Prelude.{◌&&◌}
use Rattle.std.specs.List.{list_all}
use Rattle.std.proofs.lemmas.List.{take_min, drop_min}
use Rattle.small.specs.Small.{both, usedb}

-- the library's test of two and this one
pub both_and : (a b : Bool) → a && b ≡ both a b
both_and true b = refl
both_and false b = refl

-- n of them in use
all_used : {A : Type 0} (good none : A → Bool) (xs : List A) (n : ℕ) → list_all good (take n xs) && list_all none (drop n xs) ≡ usedb good none xs n
all_used good none [] zero = refl
all_used good none [] (suc n) = refl
all_used good none (x ∷ xs) zero = both_and (none x) _ ∙ ap (both (none x)) (all_used good none xs zero)
all_used good none (x ∷ xs) (suc n) = go (good x) (all_used good none xs n)
  where
    go : (b : Bool) → list_all good (take n xs) && list_all none (drop n xs) ≡ usedb good none xs n
        → (b && list_all good (take n xs)) && list_all none (drop n xs) ≡ both b (usedb good none xs n)
    go true e = e
    go false e = refl

-- and the code's cut is at the end where n is past it
pub split_used : {A : Type 0} (good none : A → Bool) (xs : List A) (n m : ℕ) → m ≡ min n (length xs) → list_all good (take m xs) && list_all none (drop m xs) ≡ usedb good none xs n
split_used good none xs n m e = rw (e, take_min n xs, drop_min n xs) (all_used good none xs n)
