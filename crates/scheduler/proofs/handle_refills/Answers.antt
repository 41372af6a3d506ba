use mathlib.Core.Path.{refl, sym, ◌∙◌}
use Prim.Native.Nat.{◌<◌}
use native.Mathlib.Omega.{arith}
use Rattle.table.specs.Limits.{entries}
use Rattle.scheduler.proofs.Refilling.{refill_start, refill_small, refill_less, refill_more, refills_turning, refills_done}
use Rattle.scheduler.proofs.handle_refills.Goals as goal
use Rattle.scheduler.proofs.handle_refills.Goals.{After-first_id-i}

small : (c : After-first_id-i) → c.first_id-i.result < entries
small c = refill_small c.loop-s.invariant.refilling (sym c.loop-s-test.ensures) c.first_id-i.ensures

pub loop-s-init : goal.loop-s-init
loop-s-init c =
    let s = c.args.s.now in
    let r = c.requires in
    record { table = refl; refilling = refill_start s.table s.entries _ r.servers r.entries (rw c.tick.ensures (refills_turning s r.table r.refills)) }

pub bounds-s-i : goal.bounds-s-i
bounds-s-i c =
    small (goal.at.bounds-s-i c).After-first_id-i

pub bounds-s-i-in-loop-s : goal.bounds-s-i-in-loop-s
bounds-s-i-in-loop-s c =
    small (goal.at.bounds-s-i-in-loop-s c).After-first_id-i

pub loop-s-smaller : goal.loop-s-smaller
loop-s-smaller c =
    let i = c.loop-s.invariant in
    let a = rw i.table at c.again.ensures in
    omega (arith, refill_less i.refilling (sym c.loop-s-test.ensures) c.first_id-i.ensures a)

pub loop-s-preserved : goal.loop-s-preserved
loop-s-preserved c =
    let i = c.loop-s.invariant in
    let a = rw i.table at c.again.ensures in
    record { table = i.table; refilling = rw i.table (refill_more i.refilling (sym c.loop-s-test.ensures) c.first_id-i.ensures a refl) }

pub returns : goal.returns
returns c =
    let i = c.loop-s.invariant in
    let s = c.args.s.now in
    let d = refills_done s c.requires.table c.requires.refills (rw c.tick.ensures at i.refilling) (sym c.loop-s-test.ensures) in
    ((λ k. record { entries = c.loop-s.s.entries; table = i.table k; refills = c.loop-s.s.refills }) ∙ d.0, d.1)
