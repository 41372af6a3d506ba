-- A budget that is given up: what `lapsed` leaves of an entry. Assumes nothing.
use mathlib.Core.Path.{◌≡◌, refl, sym, ap, ◌∙◌}
use mathlib.Core.Bool.{Bool, true, false, not}
use native.Mathlib.Omega.{arith}
use lib.Dec.{ltb, eqb}
use borrow.Author.Tests.{eq-eqb, ne_eqb, ltb-true, ltb-false}
use Rattle.small.specs.Small.{pick, both}
use Rattle.small.proofs.Tests.{both_left}
use Rattle.table.specs.declared.Server.{Server}
use Rattle.state.specs.State.{with_budget}
use Rattle.state.specs.Polling.{lapsesb, lapsed, gives_upb}
use Rattle.state.specs.Sound.{entryb, spentb}
use Rattle.state.specs.declared.Entry.{Entry}
use Rattle.state.proofs.Stated.{entry_stated}

module _ (s : Server) (e : Entry) where
  -- nothing changes but the budget
  pub lapsed_keeps : {A : Type 0} (f : Entry → A) → f (with_budget 0 e) ≡ f e → f (lapsed s e) ≡ f e
  unfolding lapsed
  lapsed_keeps f k = go (lapsesb s.kind e)
    where
      go : (b : Bool) → f (pick b (with_budget 0 e) e) ≡ f e
      go true = k
      go false = refl

  -- and that is 0 where it then is a polling server's without work
  pub lapsed_budget : (x : Entry) → x ≡ lapsed s e → x.budget.0 ≡ pick (lapsesb s.kind x) 0 e.budget.0
  unfolding lapsed
  lapsed_budget x p =
      ap (λ (y : Entry). y.budget.0) p
      ∙ go (lapsesb s.kind e)
      ∙ ap (λ (b : Bool). pick b 0 e.budget.0) (sym (ap (lapsesb s.kind) p ∙ lapsed_keeps (lapsesb s.kind) refl))
    where
      go : (b : Bool) → (pick b (with_budget 0 e) e).budget.0 ≡ pick b 0 e.budget.0
      go true = refl
      go false = refl

  pub lapsed_sound : entryb s e ≡ true → entryb s (lapsed s e) ≡ true
  unfolding lapsed
  lapsed_sound h = go (lapsesb s.kind e)
    where
      go : (b : Bool) → entryb s (pick b (with_budget 0 e) e) ≡ true
      go true =
          let p = (entry_stated s e).0 h in
          (entry_stated s (with_budget 0 e)).1 record { budget = omega arith; loads = p.loads; arrivals = p.arrivals }
      go false = h

  -- the test of an entry is that there is nothing to give up
  pub gives_none : spentb s e ≡ not (gives_upb s.kind e)
  gives_none = go (lapsesb s.kind e) (ltb 0 e.budget.0) refl
    where
      go : (a b : Bool) → ltb 0 e.budget.0 ≡ b → pick a (eqb e.budget.0 0) true ≡ not (both a b)
      go true true p = ne_eqb e.budget.0 0 (λ z. omega (arith, ltb-true 0 e.budget.0 p))
      go true false p = eq-eqb e.budget.0 0 (omega (arith, ltb-false 0 e.budget.0 p))
      go false b p = refl

  -- there is nothing left to give up
  pub lapsed_spent : spentb s (lapsed s e) ≡ true
  lapsed_spent = go (lapsesb s.kind (lapsed s e)) refl
    where
      go : (b : Bool) → lapsesb s.kind (lapsed s e) ≡ b → pick b (eqb (lapsed s e).budget.0 0) true ≡ true
      go true p = eq-eqb (lapsed s e).budget.0 0 (lapsed_budget (lapsed s e) refl ∙ rw p)
      go false p = refl

  -- it stays as it is where there is nothing to give up
  pub lapsed_same : gives_upb s.kind e ≡ false → lapsed s e ≡ e
  unfolding lapsed
  lapsed_same h = go (lapsesb s.kind e) refl
    where
      go : (b : Bool) → lapsesb s.kind e ≡ b → pick b (with_budget 0 e) e ≡ e
      go true p =
          let z : ltb 0 e.budget.0 ≡ false = rw p at h in
          let n : 0 ≡ e.budget.0 = omega (arith, ltb-false 0 e.budget.0 z) in
          λ i. record { loads = e.loads; arrivals = e.arrivals; budget = record { 0 = n i } }
      go false p = refl

  pub lapsed_given : gives_upb s.kind e ≡ true → lapsed s e ≡ with_budget 0 e
  unfolding lapsed
  lapsed_given h = rw (both_left (lapsesb s.kind e) _ h)
