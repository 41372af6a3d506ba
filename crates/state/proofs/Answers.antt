-- Laws of the answers of calls, of the fresh state's too, for any refusal r: what is given where nothing is refused, and where something is. Assumes nothing.
use mathlib.Core.Path.{◌≡◌, refl, sym, ap, ◌∙◌}
use mathlib.Core.Bool.{Bool, true, false}
use mathlib.Core.Logic.{◌≢◌}
use Prim.Native.Nat.{ℕ}
use lib.Dec.{eqb}
use borrow.Author.Tests.{eqb-true, eqb-false}
use Rattle.small.specs.Small.{pick}
use Rattle.refusal.specs.Refusal.{none, first_of}
use Rattle.refusal.proofs.Decided.{Decided, decided}
use Rattle.refusal.specs.declared.Refusal.{Refusal}
use Rattle.table.specs.declared.Table.{Table}
use Rattle.state.specs.Fresh.{Made, fresh_state, empty_state, fresh_checks, made_with, fresh_of}

-- of each kind of answer: `next` is what is given where the refusal r is none, and `kept` where it is not
module _ {A : Type 0} (number : A → ℕ) (r : Refusal) (next kept : A) where
  abbrev pub given : A
  given = pick (eqb r.number 0) next kept

  pub given_kept : number next ≡ 0 → number given ≢ 0 → given ≡ kept
  given_kept e = go (eqb r.number 0)
    where
      go : (b : Bool) → number (pick b next kept) ≢ 0 → pick b next kept ≡ kept
      go true h = absurd (h e)
      go false h = refl

  pub given_next : number kept ≡ r.number → number given ≡ 0 → given ≡ next
  given_next e = go (eqb r.number 0) refl
    where
      go : (b : Bool) → eqb r.number 0 ≡ b → number (pick b next kept) ≡ 0 → pick b next kept ≡ next
      go true p h = refl
      go false p h = absurd (eqb-false r.number 0 p (sym e ∙ h))

-- What an answer says of its refusal: the number and the place are those of the first test that holds
module _ {A : Type 0} (refusal : A → Refusal) (r : Refusal) (next kept : A) (accepted : refusal next ≡ none) (refused : refusal kept ≡ r) where
  pub given_number : (refusal (pick (eqb r.number 0) next kept)).number ≡ r.number
  given_number = go (eqb r.number 0) refl
    where
      go : (b : Bool) → eqb r.number 0 ≡ b → (refusal (pick b next kept)).number ≡ r.number
      go true e = ap (λ (x : Refusal). x.number) accepted ∙ sym (eqb-true r.number 0 e)
      go false e = ap (λ (x : Refusal). x.number) refused

  pub given_place : r.place ≡ 0 → (refusal (pick (eqb r.number 0) next kept)).place ≡ 0
  given_place p = go (eqb r.number 0)
    where
      go : (b : Bool) → (refusal (pick b next kept)).place ≡ 0
      go true = ap (λ (x : Refusal). x.place) accepted
      go false = ap (λ (x : Refusal). x.place) refused ∙ p

-- FRESH STATE

module _ (t : Table) where
  pub fresh_decided : Decided (λ (m : Made). m.refusal) (first_of (fresh_checks t)) (made_with none (fresh_state t)) (made_with (first_of (fresh_checks t)) (empty_state t)) (fresh_of t)
  unfolding fresh_of
  fresh_decided = decided (λ (m : Made). m.refusal) (first_of (fresh_checks t)) _ _ (fresh_of t) refl refl refl

  pub fresh_done : (fresh_of t).refusal.number ≡ 0 → fresh_of t ≡ made_with none (fresh_state t)
  fresh_done h = (fresh_decided.passed h).1
