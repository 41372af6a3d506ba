-- Budgets of a list of entries: what step 4 for the queues leaves of them, what the due replenishments set, and what is charged. Assumes nothing.
use mathlib.Core.Path.{◌≡◌, refl, ap, ◌∙◌}
use mathlib.Core.Bool.{Bool, true, false}
use mathlib.Core.List.{List, [], ◌∷◌}
use Prim.Native.Nat.{ℕ, zero, suc, ◌-◌, ◌<◌}
use native.Mathlib.Omega.{arith}
use lib.Dec.{eqb}
use lib.ListN.{length, get_or}
use borrow.Author.Tests.{eqb-true}
use Rattle.small.specs.Small.{pick, alter}
use Rattle.small.proofs.Altered.{length_alter, read_altered}
use Rattle.table.specs.declared.Server.{Server}
use Rattle.state.specs.State.{zero_entry, with_budget}
use Rattle.state.specs.declared.Entry.{Entry}
use Rattle.scheduler.specs.Tick.{charge, refilled, served4, each_entry}
use Rattle.scheduler.proofs.AgainLaws.{inb}

-- step 4 for a server's queue leaves its budget
pub each_budget : (ss : List Server) (es : List Entry) (i : ℕ) → (get_or (each_entry served4 ss es) i zero_entry).budget.0 ≡ (get_or es i zero_entry).budget.0
unfolding served4
each_budget [] es i = refl
each_budget (s ∷ ss) [] i = refl
each_budget (s ∷ ss) (e ∷ es) zero = refl
each_budget (s ∷ ss) (e ∷ es) (suc i) = each_budget ss es i

-- a budget is set where its id is one of those that are due
pub refilled_budget : (full : ℕ → ℕ) (ids : List ℕ) (es : List Entry) (i : ℕ) → i < length es
    → (get_or (refilled full ids es) i zero_entry).budget.0 ≡ pick (inb i ids) (full i) (get_or es i zero_entry).budget.0
refilled_budget full [] es i l = refl
refilled_budget full (id ∷ ids) es i l =
    refilled_budget full ids (alter (with_budget (full id)) es id) i (rw (length_alter (with_budget (full id)) es id) l)
    ∙ rw (read_altered (with_budget (full id)) es id i zero_entry l) (go (eqb id i) (inb i ids) refl)
  where
    go : (b c : Bool) → eqb id i ≡ b
        → pick c (full i) (pick b (with_budget (full id) (get_or es i zero_entry)) (get_or es i zero_entry)).budget.0 ≡ pick (pick b true c) (full i) (get_or es i zero_entry).budget.0
    go true true e = refl
    go true false e = ap full (eqb-true id i e)
    go false c e = refl

pub charged_budget : (es : List Entry) (k i : ℕ) → i < length es → (get_or (alter charge es k) i zero_entry).budget.0 ≡ (get_or es i zero_entry).budget.0 - pick (eqb k i) 1 0
unfolding charge
charged_budget es k i l = rw (read_altered charge es k i zero_entry l) (go (eqb k i))
  where
    go : (c : Bool) → (pick c (charge (get_or es i zero_entry)) (get_or es i zero_entry)).budget.0 ≡ (get_or es i zero_entry).budget.0 - pick c 1 0
    go true = refl
    go false = omega arith
