-- What is seen of an outcome tells it: a place of the table its number, and the answer of `fresh` its state or its reason. Assumes nothing.
use mathlib.Core.Path.{◌≡◌, refl, sym, ap, ◌∙◌}
use mathlib.Core.Bool.{Bool, true, false}
use Prim.Native.Nat.{ℕ, ◌≤◌, ◌<◌}
use native.Mathlib.Omega.{arith}
use lib.Dec.{ltb}
use borrow.Author.Tests.{ltb-true, ltb-false}
use Rattle.std.specs.Prelude.{Option, Some, None, Result, Ok, Err}
use Rattle.small.specs.Small.{pick}
use Rattle.refusal.specs.declared.Reason.{Reason}
use Rattle.refusal.proofs.Reasons.{number_one, refusal_in_one}
use Rattle.table.specs.Limits.{entries}
use Rattle.table.specs.declared.Table.{Table}
use Rattle.state.specs.Choice.{place_in}
use Rattle.state.specs.Fresh.{Made, made_by}
use Rattle.state.specs.declared.State.{State}

-- A PLACE

pub place_there : (k i : ℕ) → place_in k ≡ Some i → (k ≡ i) × (i < entries)
place_there k i = go (ltb k entries) refl
  where
    go : (b : Bool) → ltb k entries ≡ b → pick b (Some k) None ≡ Some i → (k ≡ i) × (i < entries)
    go true p e = let h : k ≡ i = cc in (h, omega (arith, ltb-true k entries p))
    go false p e = cc

pub place_none : (k : ℕ) → place_in k ≡ None → entries ≤ k
place_none k = go (ltb k entries) refl
  where
    go : (b : Bool) → ltb k entries ≡ b → pick b (Some k) None ≡ None → entries ≤ k
    go true p e = cc
    go false p e = omega (arith, ltb-false k entries p)

-- so two numbers with one place are one, where neither is past the end
pub place_one : (k m : ℕ) → k ≤ entries → m ≤ entries → place_in k ≡ place_in m → k ≡ m
place_one k m h l e = go (place_in m) refl
  where
    go : (o : Option ℕ) → place_in m ≡ o → k ≡ m
    go (Some i) p = (place_there k i (e ∙ p)).0 ∙ sym (place_there m i p).0
    go None p = omega (arith, place_none k (e ∙ p), place_none m p)

-- A MADE STATE

pub made_one : (t : Table) (x y : Result State Reason) → made_by t x ≡ made_by t y → x ≡ y
made_one t (Ok a) (Ok b) e = ap Ok (ap (λ (m : Made). m.state) e)
made_one t (Ok a) (Err s) e = let h : Ok tt ≡ Err s = refusal_in_one (Ok tt) (Err s) (ap (λ (m : Made). m.refusal) e) in cc
made_one t (Err r) (Ok b) e = let h : Err r ≡ Ok tt = refusal_in_one (Err r) (Ok tt) (ap (λ (m : Made). m.refusal) e) in cc
made_one t (Err r) (Err s) e = ap Err (number_one r s (ap (λ (m : Made). m.refusal.number) e))
