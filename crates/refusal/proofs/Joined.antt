-- Checks of one list behind those of another: what passes, and what the first that holds is. Assumes nothing.
use mathlib.Core.Path.{◌≡◌, refl, sym, ap, ◌∙◌}
use mathlib.Core.Bool.{Bool, true, false}
use mathlib.Core.List.{List, [], ◌∷◌, ◌++◌}
use mathlib.Core.Logic.{◌↔◌, ◌⊎◌, inl, inr, ⊎_elim}
use Prim.Native.Nat.{ℕ, suc, ◌≤◌, ◌<◌}
use native.Mathlib.Omega.{arith}
use lib.ListN.{take, drop}
use Rattle.small.specs.Small.{pick}
use Rattle.small.proofs.Tests.{contrary}
use Rattle.refusal.specs.Refusal.{refused, none, Check, first_of, Passed}
use Rattle.refusal.specs.declared.Refusal.{Refusal}
use Rattle.refusal.proofs.Exactly.{Numbered, Other, exactly, given_by, the_check, otherb, other, at_place}

pub passed_join : (xs ys : List Check) → Passed xs → Passed ys → Passed (xs ++ ys)
passed_join [] ys p q = q
passed_join (x ∷ xs) ys p q = (p.0, passed_join xs ys p.1 q)

pub passed_parts : (xs ys : List Check) → Passed (xs ++ ys) → Passed xs × Passed ys
passed_parts [] ys p = (tt, p)
passed_parts (x ∷ xs) ys p = let (q, r) = passed_parts xs ys p.1 in ((p.0, q), r)

pub passed_none : (cs : List Check) → Passed cs → first_of cs ≡ none
passed_none [] p = refl
passed_none (c ∷ cs) p = rw p.0 (passed_none cs p.1)

pub other_join : (n : ℕ) (xs ys : List Check) → Other n xs → Other n ys → Other n (xs ++ ys)
other_join n [] ys p q = q
other_join n (x ∷ xs) ys p q = (p.0, other_join n xs ys p.1 q)

-- the numbers of the checks lie between two
abbrev pub Ranged : ℕ → ℕ → List Check → Type 0
Ranged least most [] = Unit
Ranged least most (c ∷ cs) = (least ≤ c.refusal.number) × (c.refusal.number ≤ most) × Ranged least most cs

module _ (least most : ℕ) where
  pub ranged_join : (xs ys : List Check) → Ranged least most xs → Ranged least most ys → Ranged least most (xs ++ ys)
  ranged_join [] ys p q = q
  ranged_join (x ∷ xs) ys p q = (p.0, p.1, ranged_join xs ys p.2 q)

  pub ranged_first : (cs : List Check) → Ranged least most cs → (first_of cs).number ≤ most
  ranged_first [] p = omega arith
  ranged_first (c ∷ cs) p = go c.holds (ranged_first cs p.2)
    where
      go : (b : Bool) → (first_of cs).number ≤ most → (pick b c.refusal (first_of cs)).number ≤ most
      go true r = p.1
      go false r = r

  pub ranged_wider : (less more : ℕ) (cs : List Check) → less ≤ least → most ≤ more → Ranged least most cs → Ranged less more cs
  ranged_wider less more [] h m p = tt
  ranged_wider less more (c ∷ cs) h m p = (omega arith, omega arith, ranged_wider less more cs h m p.2)

  pub ranged_numbered : (cs : List Check) → 0 < least → Ranged least most cs → Numbered cs
  ranged_numbered [] h p = tt
  ranged_numbered (c ∷ cs) h p = (λ e. omega arith, ranged_numbered cs h p.2)

  pub ranged_other : (n : ℕ) (cs : List Check) → 0 < n → (n < least) ⊎ (most < n) → Ranged least most cs → Other n cs
  ranged_other n [] z h p = λ e. omega arith
  ranged_other n (c ∷ cs) z (inl h) p = (λ e. omega arith, ranged_other n cs z (inl h) p.2)
  ranged_other n (c ∷ cs) z (inr h) p = (λ e. omega arith, ranged_other n cs z (inr h) p.2)

-- THE FIRST OF TWO LISTS, for a refusal r whose number is not 0
module _ (r : Refusal) (nz : r.number ≡ 0 → ⊥) where
  pub first_append : (xs ys : List Check) → first_of (xs ++ ys) ≡ r ↔ ((first_of xs ≡ r) ⊎ (Passed xs × (first_of ys ≡ r)))
  first_append [] ys = (λ e. inr (tt, e), back)
    where
      back : (none ≡ r) ⊎ (Unit {0} × (first_of ys ≡ r)) → first_of ys ≡ r
      back (inl e) = absurd (nz (sym (ap (λ (x : Refusal). x.number) e)))
      back (inr h) = h.1
  first_append (c ∷ cs) ys = go c.holds refl (first_append cs ys)
    where
      go : (b : Bool) → c.holds ≡ b → first_of (cs ++ ys) ≡ r ↔ ((first_of cs ≡ r) ⊎ (Passed cs × (first_of ys ≡ r)))
          → pick b c.refusal (first_of (cs ++ ys)) ≡ r ↔ ((pick b c.refusal (first_of cs) ≡ r) ⊎ (((b ≡ false) × Passed cs) × (first_of ys ≡ r)))
      go true p rest = (λ e. inl e, ⊎_elim (λ e. e) (λ h. contrary refl h.0.0))
      go false p rest = (
        λ e. ⊎_elim (λ f. inl f) (λ h. inr ((refl, h.0), h.1)) (rest.0 e),
        ⊎_elim (λ f. rest.1 (inl f)) (λ h. rest.1 (inr (h.0.1, h.1))),
      )

  -- the number is none of those behind
  pub first_before : (xs ys : List Check) → Other r.number ys → first_of (xs ++ ys) ≡ r ↔ (first_of xs ≡ r)
  first_before xs ys o = (
    λ e. ⊎_elim (λ f. f) (λ h. absurd (given_by r.number ys o (ap (λ (x : Refusal). x.number) h.1))) ((first_append xs ys).0 e),
    λ e. (first_append xs ys).1 (inl e),
  )

  -- the number is none of those before
  pub first_behind : (xs ys : List Check) → Other r.number xs → first_of (xs ++ ys) ≡ r ↔ Passed xs × (first_of ys ≡ r)
  first_behind xs ys o = (
    λ e. ⊎_elim (λ f. absurd (given_by r.number xs o (ap (λ (x : Refusal). x.number) f))) (λ h. h) ((first_append xs ys).0 e),
    λ h. (first_append xs ys).1 (inr h),
  )

-- "EXACTLY WHEN", WITH ITS PLACE, for a number that one check alone has

passed_first : (x : Check) (before after : List Check) → Passed before → x.holds ≡ true → first_of (before ++ (x ∷ after)) ≡ x.refusal
passed_first x [] after p h = rw h
passed_first x (c ∷ cs) after p h = rw p.0 (passed_first x cs after p.1 h)

-- the check at a place i of a list whose numbers are known
pub refusal_when : (cs : List Check) (i k : ℕ) → let c = the_check cs i in let n = c.refusal.number in otherb n (take i cs) ≡ true → otherb n (drop (suc i) cs) ≡ true
    → first_of cs ≡ refused n k ↔ Passed (take i cs) × (c.holds ≡ true) × (k ≡ c.refusal.place)
refusal_when cs i k b a =
    let c = the_check cs i in
    let n = c.refusal.number in
    let split = at_place cs i a in
    let x = exactly c (take i cs) (drop (suc i) cs) (other n (take i cs) b) (other n (drop (suc i) cs) a) in
    let first : Passed (take i cs) → c.holds ≡ true → first_of cs ≡ c.refusal = λ p h. ap first_of (sym split) ∙ passed_first c (take i cs) (drop (suc i) cs) p h in (
      λ e. let h = x.0 (ap (λ (l : List Check). (first_of l).number) split ∙ ap (λ (y : Refusal). y.number) e) in (h.0, h.1, ap (λ (y : Refusal). y.place) (sym e ∙ first h.0 h.1)),
      λ h. first h.0 h.1 ∙ (λ j. record { number = n; place = sym h.2 j }),
    )
