-- `scheduler::charge` meets its contract: the first pending task has work to give up (proofs/Choosing.antt of `state`), and where there is none no load is altered.
use mathlib.Core.Path.{sym, ap, ◌∙◌}
use Prim.Native.Nat.{◌-◌}
use native.Mathlib.Omega.{arith}
use borrow.Author.Tests.{ltb-true}
use lib.ListN.{get_or}
use Rattle.small.specs.Small.{alter}
use Rattle.small.proofs.Altered.{set_alter, alter_past}
use Rattle.table.specs.Table.{served}
use Rattle.state.specs.State.{zero_load}
use Rattle.state.specs.Choice.{first_pending}
use Rattle.state.proofs.Choosing.{first_pending_lem}
use Rattle.scheduler.specs.Tick.{less_work, charge}
use Rattle.state.proofs.Places.{place_there, place_none}
use Rattle.scheduler.proofs.charge.Goals as goal

pub returns-in_err-j : goal.returns-in_err-j
unfolding charge
returns-in_err-j c =
    let e = c.args.e.now in
    let none = sym c.in_err-j.ensures in
    let past = alter_past less_work e.loads (first_pending e.loads) (omega (arith, c.requires.1, place_none (first_pending e.loads) none)) in
    (λ k. record { loads = sym past k; arrivals = e.arrivals; budget = served (e.budget.0 - 1) }, c.from_residual.ensures ∙ sym none)

pub overflow_sub-l : goal.overflow_sub-l
overflow_sub-l c =
    let ls = c.args.e.now.loads in
    let p = place_there (first_pending ls) c.in_ok-j.j (sym c.in_ok-j.ensures) in
    let h = (first_pending_lem ls zero_load).here (omega (arith, c.requires.1, p.0, p.1)) in
    rw p.0 at (ltb-true 0 (get_or ls (first_pending ls) zero_load).pending.0 h)

pub returns : goal.returns
unfolding charge
returns c =
    let e = c.args.e.now in
    let ls = e.loads in
    let p = place_there (first_pending ls) c.in_ok-j.j (sym c.in_ok-j.ensures) in
    let l = set_alter less_work ls c.in_ok-j.j zero_load (omega (arith, c.requires.1, p.1)) ∙ sym (ap (alter less_work ls) p.0) in
    (λ k. record { loads = l k; arrivals = e.arrivals; budget = served (e.budget.0 - 1) }, c.in_ok-j.ensures)
