-- What three of the tests of a table say, which other crates cite too: of a value in a range, of a kind, and of a task entry that is zero. Assumes nothing.
use mathlib.Core.Path.{◌≡◌, refl, ap}
use mathlib.Core.Bool.{Bool, true, false}
use mathlib.Core.Logic.{◌↔◌, inl, inr}
use Prim.Native.Nat.{ℕ}
use lib.Dec.{leb, eqb}
use borrow.Author.Tests.{leb-true, eqb-true, le-leb}
use Rattle.small.specs.Small.{pick}
use Rattle.small.proofs.Tests.{both_left, both_right}
use Rattle.table.specs.Kind.{idling_kind, deferrable_kind, polling_kind}
use Rattle.table.specs.Table.{zero_task}
use Rattle.table.specs.Sound.{rangeb, arrivalb, zero_taskb, kindb}
use Rattle.table.specs.Meaning.{KnownKind, Within}
use Rattle.table.specs.declared.Release.{Release}
use Rattle.table.specs.declared.Release.TheVariants.{OnArrival, Periodic}
use Rattle.table.specs.declared.Task.{Task}

pub range_within : (least most x : ℕ) → rangeb least most x ≡ true ↔ Within least most x
range_within least most x = (
  λ e. record { low = leb-true least x (both_left _ _ e); high = leb-true x most (both_right (leb least x) _ e) },
  λ w. rw (le-leb least x w.low, le-leb x most w.high),
)

pub kind_known : (k : ℕ) → kindb k ≡ true ↔ KnownKind k
kind_known k = (forth (eqb k idling_kind) (eqb k deferrable_kind) refl refl, back)
  where
    forth : (a b : Bool) → eqb k idling_kind ≡ a → eqb k deferrable_kind ≡ b → pick a true (pick b true (eqb k polling_kind)) ≡ true → KnownKind k
    forth true b p q h = inl (eqb-true k idling_kind p)
    forth false true p q h = inr (inl (eqb-true k deferrable_kind q))
    forth false false p q h = inr (inr (eqb-true k polling_kind h))

    back : KnownKind k → kindb k ≡ true
    back (inl e) = rw e
    back (inr (inl e)) = rw e
    back (inr (inr e)) = rw e

arrival_is : (r : Release) → arrivalb r ≡ true → r ≡ OnArrival
arrival_is OnArrival e = refl
arrival_is (Periodic T O) e = cc

pub zero_task_lem : (t : Task) → zero_taskb t ≡ true ↔ (t ≡ zero_task)
zero_task_lem t = (forth, λ e. ap zero_taskb e)
  where
    forth : zero_taskb t ≡ true → t ≡ zero_task
    forth e =
        let w : t.work.0 ≡ 0 = eqb-true t.work.0 0 (both_left _ _ e) in
        let r : t.release ≡ OnArrival = arrival_is t.release (both_right (eqb t.work.0 0) _ e) in
        λ j. record { work = record { 0 = w j }; release = r j }
