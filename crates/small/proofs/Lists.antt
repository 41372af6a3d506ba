-- Reads and stores of a list: what stands past its end, one element more, a list built by stores, and one replaced place by place. Over any elements. Assumes
-- nothing.
use mathlib.Core.Path.{◌≡◌, refl, sym, ap, ◌∙◌}
use mathlib.Core.Bool.{Bool, true, false}
use mathlib.Core.List.{List, [], ◌∷◌, ◌++◌, map, append-nil, append_assoc}
use Prim.Native.Nat.{ℕ, zero, suc, ◌+◌, ◌≤◌, ◌<◌}
use native.Mathlib.Numerals.{add-one}
use native.Mathlib.Omega.{arith}
use lib.Dec.{ltb}
use lib.ListN.{length, get_or, set, take, drop, replicate, length-append, drop_of_length-le, get_or-eq_default}
use lib.Seq.{drop-cons, drop-drop, take-add, take_all, take-suc, take-suc-set, get_or_at, set_at}
use borrow.Author.Tests.{ltb-true, ltb-false}

-- READS

module _ {A : Type 0} where
  -- inside the list a read does not depend on what stands past the end
  pub get_or_inside : (xs : List A) (i : ℕ) (d e : A) → i < length xs → get_or xs i d ≡ get_or xs i e
  get_or_inside [] i d e h = absurd (omega arith)
  get_or_inside (x ∷ xs) zero d e h = refl
  get_or_inside (x ∷ xs) (suc i) d e h = get_or_inside xs i d e (omega arith)

  -- one element more, at the code's `i + 1`
  pub drop_step : (xs : List A) (i : ℕ) (d : A) → i < length xs → drop i xs ≡ get_or xs i d ∷ drop (i + 1) xs
  drop_step xs i d h = rw (add-one, drop-cons xs i d)

  -- A LIST BUILT BY STORES: what is stored below i, and what is still to come, are the whole

  pub built_more : (out : List A) (i : ℕ) (x : A) (rest whole : List A) → i < length out → take i out ++ (x ∷ rest) ≡ whole → take (i + 1) (set out i x) ++ rest ≡ whole
  built_more out i x rest whole h e = rw (add-one, take-suc-set, append_assoc) e

  pub built_end : (out : List A) (i : ℕ) (rest whole : List A) → length out ≤ i → rest ≡ [] → take i out ++ rest ≡ whole → out ≡ whole
  built_end out i rest whole h n e = sym (take_all i out h) ∙ sym (append-nil (take i out)) ∙ rw n at e

-- PAST THE END

-- an entry that is the default wherever there is one is the default past the end too
pub past_default : {A : Type 0} (xs : List A) (d : A) (n : ℕ) → ((i : ℕ) → n ≤ i → i < length xs → get_or xs i d ≡ d) → (i : ℕ) → n ≤ i → get_or xs i d ≡ d
past_default xs d n h i m = go (ltb i (length xs)) refl
  where
    go : (b : Bool) → ltb i (length xs) ≡ b → get_or xs i d ≡ d
    go true p = h i m (ltb-true i (length xs) p)
    go false p = get_or-eq_default xs d (ltb-false i (length xs) p)

pub replicate_default : {A : Type 0} (n i : ℕ) (d : A) → get_or (replicate n d) i d ≡ d
replicate_default zero i d = refl
replicate_default (suc n) zero d = refl
replicate_default (suc n) (suc i) d = replicate_default n i d

-- A PART

pub map_drop : {A B : Type 0} (f : A → B) (b : ℕ) (xs : List A) → drop b (map f xs) ≡ map f (drop b xs)
map_drop f zero xs = refl
map_drop f (suc b) [] = refl
map_drop f (suc b) (x ∷ xs) = map_drop f b xs

pub map_less : {A B : Type 0} (f : A → B) (p : ℕ) (xs : List A) → map f (take p (take (suc p) xs)) ≡ take p (map f xs)
map_less f zero xs = refl
map_less f (suc p) [] = refl
map_less f (suc p) (x ∷ xs) = ap (λ ys. f x ∷ ys) (map_less f p xs)

pub take_next : {A : Type 0} (n m at : ℕ) (xs : List A) → take (n + m) (drop at xs) ≡ take n (drop at xs) ++ take m (drop (at + n) xs)
take_next n m at xs = take-add n m (drop at xs) ∙ rw drop-drop

-- A LIST REPLACED PLACE BY PLACE: the first i are the new ones, the others as they were

-- the first i values of a function
abbrev pub firsts : {A : Type 0} → (ℕ → A) → ℕ → List A
firsts f zero = []
firsts f (suc i) = firsts f i ++ (f i ∷ [])

module _ {A : Type 0} (f : ℕ → A) where
  pub firsts_length : (i : ℕ) → length (firsts f i) ≡ i
  firsts_length zero = refl
  firsts_length (suc i) = rw length-append (omega (arith, firsts_length i))

  module _ (xs : List A) (i : ℕ) (z : A) (h : i < length xs) where
    pub firsts_at : get_or (firsts f i ++ drop i xs) i z ≡ get_or xs i z
    firsts_at = rw (drop-cons xs i z) (get_or_at (firsts f i) (get_or xs i z) (drop (suc i) xs) z i (firsts_length i))

    pub firsts_more : set (firsts f i ++ drop i xs) i (f i) ≡ firsts f (i + 1) ++ drop (i + 1) xs
    firsts_more = rw (add-one, append_assoc, drop-cons xs i z h) (set_at (firsts f i) (get_or xs i z) (drop (suc i) xs) (f i) i (firsts_length i))

  pub firsts_take : (ys : List A) (z : A) (i : ℕ) → i ≤ length ys → ((j : ℕ) → j < length ys → get_or ys j z ≡ f j) → firsts f i ≡ take i ys
  firsts_take ys z zero h r = refl
  firsts_take ys z (suc i) h r =
      let k : i < length ys = omega arith in
      rw (take-suc ys i z k, firsts_take ys z i (omega arith) r, r i k)

  -- at the end they are the list whose elements they are
  pub firsts_all : (xs ys : List A) (z : A) (n : ℕ) → length xs ≤ n → length ys ≡ n → ((j : ℕ) → j < n → get_or ys j z ≡ f j) → firsts f n ++ drop n xs ≡ ys
  firsts_all xs ys z n h l r =
      rw (drop_of_length-le xs h, append-nil)
      (firsts_take ys z n (omega arith) (λ j k. r j (omega arith)) ∙ take_all n ys (omega arith))
