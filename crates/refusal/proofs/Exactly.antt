-- What a list of checks says: a refusal is given exactly when its test holds and none before it does. Assumes nothing.
use mathlib.Core.Path.{◌≡◌, refl, sym, ap, subst, ◌∙◌}
use mathlib.Core.Bool.{Bool, true, false, not}
use mathlib.Core.List.{List, [], ◌∷◌, ◌++◌}
use mathlib.Core.Logic.Iff
use mathlib.Core.Logic.{◌↔◌}
use Prim.Native.Nat.{ℕ, zero, suc}
use lib.Dec.{eqb}
use lib.ListN.{get_or, take, drop}
use borrow.Author.Tests.{eqb-true, eqb-false, ne_eqb, not-true}
use Rattle.small.specs.Small.{pick, both}
use Rattle.small.proofs.Tests.{both_left, both_right, contrary}
use Rattle.refusal.specs.Refusal.{Check, check, first_of, Passed, First}
use Rattle.refusal.specs.declared.Refusal.{Refusal}

-- no check has the number, which is not 0
abbrev pub Other : ℕ → List Check → Type 0
Other n [] = n ≡ 0 → ⊥
Other n (c ∷ cs) = (c.refusal.number ≡ n → ⊥) × Other n cs

-- then it is not given
pub given_by : (n : ℕ) (cs : List Check) → Other n cs → (first_of cs).number ≡ n → ⊥
given_by n [] o e = o (sym e)
given_by n (c ∷ cs) o e = go c.holds e (given_by n cs o.1)
  where
    go : (b : Bool) → (pick b c.refusal (first_of cs)).number ≡ n → ((first_of cs).number ≡ n → ⊥) → ⊥
    go true f r = o.0 f
    go false f r = r f

-- THE TABLE'S "EXACTLY WHEN", for a number that one check alone has
pub exactly : (x : Check) (before after : List Check) → let n = x.refusal.number in Other n before → Other n after
    → (first_of (before ++ (x ∷ after))).number ≡ n ↔ (Passed before × (x.holds ≡ true))
exactly x [] after o a = (λ e. (tt, forth x.holds e), λ h. back x.holds h.1)
  where
    forth : (b : Bool) → (pick b x.refusal (first_of after)).number ≡ x.refusal.number → b ≡ true
    forth true e = refl
    forth false e = absurd (given_by x.refusal.number after a e)

    back : (b : Bool) → b ≡ true → (pick b x.refusal (first_of after)).number ≡ x.refusal.number
    back true e = refl
    back false e = cc
exactly x (c ∷ cs) after o a =
    let rest = exactly x cs after o.1 a in
    (λ e. forth c.holds refl e rest.0, λ h. rw h.0.0 (rest.1 (h.0.1, h.1)))
  where
    forth : (t : Bool) → c.holds ≡ t → (pick t c.refusal (first_of (cs ++ (x ∷ after)))).number ≡ x.refusal.number
        → ((first_of (cs ++ (x ∷ after))).number ≡ x.refusal.number → Passed cs × (x.holds ≡ true)) → ((c.holds ≡ false) × Passed cs) × (x.holds ≡ true)
    forth true p e r = absurd (o.0 e)
    forth false p e r = let h = r e in ((p, h.0), h.1)

-- no check has number 0
abbrev pub Numbered : List Check → Type 0
Numbered [] = Unit
Numbered (c ∷ cs) = (c.refusal.number ≡ 0 → ⊥) × Numbered cs

-- and nothing is refused exactly when no test holds
pub passes : (cs : List Check) → Numbered cs → (first_of cs).number ≡ 0 ↔ Passed cs
passes [] o = (λ e. tt, λ h. refl)
passes (c ∷ cs) o = (λ e. forth c.holds refl e (passes cs o.1).0, λ h. rw h.0 ((passes cs o.1).1 h.1))
  where
    forth : (t : Bool) → c.holds ≡ t → (pick t c.refusal (first_of cs)).number ≡ 0 → ((first_of cs).number ≡ 0 → Passed cs) → (c.holds ≡ false) × Passed cs
    forth true p e r = absurd (o.0 e)
    forth false p e r = (p, r e)

pub numbered_append : (xs ys : List Check) → Numbered xs → Numbered ys → Numbered (xs ++ ys)
numbered_append [] ys o p = p
numbered_append (x ∷ xs) ys o p = (o.0, numbered_append xs ys o.1 p)

-- of two lists of checks, the second is asked where the first refuses nothing
pub first_append : (xs ys : List Check) → Numbered xs → first_of (xs ++ ys) ≡ pick (eqb (first_of xs).number 0) (first_of ys) (first_of xs)
first_append [] ys o = refl
first_append (x ∷ xs) ys o = go x.holds (first_append xs ys o.1)
  where
    go : (b : Bool) → first_of (xs ++ ys) ≡ pick (eqb (first_of xs).number 0) (first_of ys) (first_of xs)
        → pick b x.refusal (first_of (xs ++ ys)) ≡ pick (eqb (pick b x.refusal (first_of xs)).number 0) (first_of ys) (pick b x.refusal (first_of xs))
    go true r = rw (ne_eqb x.refusal.number 0 o.0)
    go false r = r

pub neither_refuses : (xs ys : List Check) → Numbered xs → (first_of (xs ++ ys)).number ≡ 0 → ((first_of xs).number ≡ 0) × ((first_of ys).number ≡ 0)
neither_refuses xs ys o e = go (eqb (first_of xs).number 0) refl (rw (first_append xs ys o) at e)
  where
    go : (b : Bool) → eqb (first_of xs).number 0 ≡ b → (pick b (first_of ys) (first_of xs)).number ≡ 0 → ((first_of xs).number ≡ 0) × ((first_of ys).number ≡ 0)
    go true p f = (eqb-true (first_of xs).number 0 p, f)
    go false p f = absurd (eqb-false (first_of xs).number 0 p f)

first_from : (r : Refusal) (cs : List Check) → (r.number ≡ 0 → ⊥) → first_of cs ≡ r → First r cs
first_from r [] n e = absurd (n (sym (ap (λ (x : Refusal). x.number) e)))
first_from r (c ∷ cs) n e = go c.holds refl e (first_from r cs n)
  where
    go : (b : Bool) → c.holds ≡ b → pick b c.refusal (first_of cs) ≡ r → (first_of cs ≡ r → First r cs) → First r (c ∷ cs)
    go true p f k = record { before = []; after = cs; here = λ i. record { refusal = f i; holds = p i } ∷ cs; passed = tt }
    go false p f k =
        let h = k f in
        record { before = c ∷ h.before; after = h.after; here = λ i. c ∷ h.here i; passed = (p, h.passed) }

first_is : (r : Refusal) (before after : List Check) → Passed before → first_of (before ++ (record { refusal = r; holds = true } ∷ after)) ≡ r
first_is r [] after p = refl
first_is r (c ∷ cs) after p = rw p.0 (first_is r cs after p.1)

-- "EXACTLY WHEN" for any refusal, with its place: it is that of the first check that holds
pub given : (r : Refusal) (cs : List Check) → (r.number ≡ 0 → ⊥) → first_of cs ≡ r ↔ First r cs
given r cs n = (first_from r cs n, λ f. ap first_of f.here ∙ first_is r f.before f.after f.passed)

-- FOR A CALL WHOSE NUMBERS ARE KNOWN, where the side conditions compute

-- the check at a place of the list
abbrev pub the_check : List Check → ℕ → Check
the_check cs k = get_or cs k (check 0 false)

-- `Other`, `Numbered`, and that no check names a place
abbrev pub otherb : ℕ → List Check → Bool
otherb n [] = not (eqb n 0)
otherb n (c ∷ cs) = both (not (eqb c.refusal.number n)) (otherb n cs)

abbrev pub numberedb : List Check → Bool
numberedb [] = true
numberedb (c ∷ cs) = both (not (eqb c.refusal.number 0)) (numberedb cs)

abbrev pub placelessb : List Check → Bool
placelessb [] = true
placelessb (c ∷ cs) = both (eqb c.refusal.place 0) (placelessb cs)

pub other : (n : ℕ) (cs : List Check) → otherb n cs ≡ true → Other n cs
other n [] h = eqb-false n 0 (not-true (eqb n 0) h)
other n (c ∷ cs) h =
    (eqb-false c.refusal.number n (not-true (eqb c.refusal.number n) (both_left _ _ h)), other n cs (both_right (not (eqb c.refusal.number n)) _ h))

pub numbered : (cs : List Check) → numberedb cs ≡ true → Numbered cs
numbered [] h = tt
numbered (c ∷ cs) h =
    (eqb-false c.refusal.number 0 (not-true (eqb c.refusal.number 0) (both_left _ _ h)), numbered cs (both_right (not (eqb c.refusal.number 0)) _ h))

pub at_place : (cs : List Check) (k : ℕ) → otherb (the_check cs k).refusal.number (drop (suc k) cs) ≡ true → take k cs ++ (the_check cs k ∷ drop (suc k) cs) ≡ cs
at_place [] k h = contrary h refl
at_place (c ∷ cs) zero h = refl
at_place (c ∷ cs) (suc k) h = ap {B = List Check} (λ l. c ∷ l) (at_place cs k h)

-- the refusal names no place
pub no_place : (cs : List Check) → placelessb cs ≡ true → (first_of cs).place ≡ 0
no_place [] h = refl
no_place (c ∷ cs) h = go c.holds (no_place cs (both_right (eqb c.refusal.place 0) _ h))
  where
    go : (b : Bool) → (first_of cs).place ≡ 0 → (pick b c.refusal (first_of cs)).place ≡ 0
    go true r = eqb-true c.refusal.place 0 (both_left _ _ h)
    go false r = r

-- of the number r that the call answers, with the tests put into words: A says of them what the table says
module _ (r : ℕ) (cs : List Check) (e : r ≡ (first_of cs).number) {A : Type 0} where
  pub number_when : (k : ℕ) → let c = the_check cs k in otherb c.refusal.number (take k cs) ≡ true → otherb c.refusal.number (drop (suc k) cs) ≡ true
      → (Passed (take k cs) × (c.holds ≡ true) → A) → (A → Passed (take k cs) × (c.holds ≡ true)) → r ≡ c.refusal.number ↔ A
  number_when k before after read said =
      let c = the_check cs k in
      let n = c.refusal.number in
      let x = exactly c (take k cs) (drop (suc k) cs) (other n (take k cs) before) (other n (drop (suc k) cs) after) in
      rw e (Iff.trans (subst (λ (l : List Check). (first_of l).number ≡ n ↔ (Passed (take k cs) × (c.holds ≡ true))) (at_place cs k after) x) (read, said))

  pub none_when : numberedb cs ≡ true → (Passed cs → A) → (A → Passed cs) → r ≡ 0 ↔ A
  none_when n read said = rw e (Iff.trans (passes cs (numbered cs n)) (read, said))
