-- AN ANSWER t that is `good` where nothing is refused and else `bad`, which holds the refusal r: what its own refusal is, and what that tells of the answer.
-- Over any kind of answer, of which `refusal_of` gives the refusal. Assumes nothing.
use mathlib.Core.Path.{◌≡◌, refl, sym, ap, ◌∙◌}
use mathlib.Core.Bool.{Bool, true, false}
use mathlib.Core.Logic.{◌≢◌}
use lib.Dec.{eqb}
use borrow.Author.Tests.{eqb-true, eqb-false}
use Rattle.small.specs.Small.{pick}
use Rattle.refusal.specs.Refusal.{none}
use Rattle.refusal.specs.declared.Refusal.{Refusal}

pub record Decided {A : Type 0} (refusal_of : A → Refusal) (r : Refusal) (good bad t : A) : Type 0 where
  pub number : (refusal_of t).number ≡ r.number
  pub place : r.place ≡ 0 → (refusal_of t).place ≡ 0
  pub whole : (r.number ≡ 0 → r ≡ none) → refusal_of t ≡ r
  pub refused : (refusal_of t).number ≢ 0 → (r.number ≢ 0) × (t ≡ bad)
  pub passed : (refusal_of t).number ≡ 0 → (r.number ≡ 0) × (t ≡ good)

pub decided : {A : Type 0} (refusal_of : A → Refusal) (r : Refusal) (good bad t : A) → refusal_of good ≡ none → refusal_of bad ≡ r → t ≡ pick (eqb r.number 0) good bad
    → Decided refusal_of r good bad t
decided refusal_of r good bad t y n = go (eqb r.number 0) refl
  where
    go : (b : Bool) → eqb r.number 0 ≡ b → t ≡ pick b good bad → Decided refusal_of r good bad t
    go true p e =
        let z : r.number ≡ 0 = eqb-true r.number 0 p in
        let f : refusal_of t ≡ none = ap refusal_of e ∙ y in
        let g = ap (λ (x : Refusal). x.number) f in
        record {
          number = g ∙ sym z;
          place = λ h. ap (λ (x : Refusal). x.place) f;
          whole = λ h. f ∙ sym (h z);
          refused = λ h. absurd (h g);
          passed = λ h. (z, e);
        }
    go false p e =
        let m : r.number ≢ 0 = eqb-false r.number 0 p in
        let f : refusal_of t ≡ r = ap refusal_of e ∙ n in
        let g = ap (λ (x : Refusal). x.number) f in
        record {
          number = g;
          place = λ h. ap (λ (x : Refusal). x.place) f ∙ h;
          whole = λ h. f;
          refused = λ h. (m, e);
          passed = λ h. absurd (m (sym g ∙ h));
        }
