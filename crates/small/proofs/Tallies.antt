-- How many elements of a part of a list pass a test, as a sum over places. Over any elements. Assumes nothing.
use mathlib.Core.Path.{◌≡◌, refl, ap, ◌∙◌}
use mathlib.Core.Bool.{Bool, true, false}
use mathlib.Core.List.{List, [], ◌∷◌}
use Prim.Native.Nat.{ℕ, ◌+◌, ◌-◌, ◌≤◌, ◌<◌, min}
use native.Mathlib.Omega.{arith}
use lib.ListN.{length, take, drop, get_or, length-take, length-drop}
use lib.Seq.{get_or-take, get_or-drop}
use Rattle.small.specs.Small.{sum_below, num, tally}
use Rattle.small.proofs.Sums.{sum_same, sum_term, sum_front}

-- A PART of a list: n elements from place b on, or as many as there are; d stands behind the last one

module _ {A : Type 0} (d : A) where
  count_sum : (p : A → Bool) (xs : List A) → tally p xs ≡ sum_below (λ x. num (p (get_or xs x d))) (length xs)
  unfolding tally sum_below
  count_sum p [] = refl
  count_sum p (x ∷ xs) = omega (arith, count_sum p xs, sum_front (λ y. num (p (get_or (x ∷ xs) y d))) (length xs))

  module _ (xs : List A) (b n : ℕ) where
    abbrev part : List A
    part = take n (drop b xs)

    pub part_length : length part ≡ min n (length xs - b)
    part_length = simp (length-take, length-drop)

    pub part_count : (p : A → Bool) → tally p part ≡ sum_below (λ x. num (p (get_or xs (b + x) d))) (length part)
    part_count p = count_sum p part ∙ sum_same _ _ (length part) (λ x l. ap (λ (y : A). num (p y)) (at x l))
      where
        at : (x : ℕ) → x < length part → get_or part x d ≡ get_or xs (b + x) d
        at x l = let m : x < n = omega (arith, part_length) in rw (get_or-take n (drop b xs) x d m, get_or-drop)

    -- where none passes the test, it fails at each place
    pub part_none : (p : A → Bool) → tally p part ≡ 0 → (x : ℕ) → b ≤ x → x < b + n → x < length xs → p (get_or xs x d) ≡ false
    part_none p z x l m h =
        let e : b + (x - b) ≡ x = omega arith in
        rw e at (off (p (get_or xs (b + (x - b)) d))
        (omega (arith, part_count p, sum_term (λ y. num (p (get_or xs (b + y) d))) (length part) (x - b) (omega (arith, part_length)))))
      where
        off : (b : Bool) → num b ≤ 0 → b ≡ false
        off true k = absurd (omega arith)
        off false k = refl
