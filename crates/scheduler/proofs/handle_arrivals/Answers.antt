use mathlib.Core.Path.{◌≡◌, refl, sym, ap, ◌∙◌}
use Prim.Native.Nat.{ℕ, ◌<◌}
use native.Mathlib.Omega.{arith}
use lib.ListN.{length, set}
use Rattle.std.proofs.Common.{rules}
use Rattle.small.proofs.Altered.{set_alter}
use Rattle.queue.specs.Limits.{max_gap}
use Rattle.queue.specs.Steps.{again_step}
use Rattle.table.specs.Limits.{entries}
use Rattle.state.specs.State.{zero_load, task_at, task_delay}
use Rattle.state.specs.declared.Entry.{Entry}
use Rattle.state.proofs.Stated.{below_at}
use Rattle.scheduler.specs.Arrive.{load_after, with_arrival}
use Rattle.scheduler.specs.Moves.{EntryTurn, Clocked, Arriving, one_arrival, due_turn, with_queue}
use Rattle.scheduler.proofs.Arrivals.{tabled_work, arrival_small, arrival_clocked, arrival_less, arrival_same, arrivals_few, arrivals_none, ticked_clocked, served_ticked}
use Rattle.scheduler.proofs.handle_arrivals.Goals as goal
use Rattle.scheduler.proofs.handle_arrivals.Goals.{After-again, After-first_id-j, After-tick, In-loop-e}

-- the entry when the loop begins
clocked : (c : After-tick) → Clocked c.args.server.now (with_queue c.tick.new.self c.args.e.now)
clocked c = rw c.tick.ensures (ticked_clocked c.args.server.now c.args.e.now c.requires.server c.requires.entry)

-- an arrival is due
arriving : (c : In-loop-e) → Arriving c.args.server.now c.loop-e.e
arriving c = record { clocked = c.loop-e.invariant.clocked; due = sym c.loop-e-test.ensures }

-- at one of the eight tasks
small : (c : After-first_id-j) → c.first_id-j.result < entries
small c = rw c.first_id-j.ensures (arrival_small _ _ (arriving (goal.at.After-first_id-j c).In-loop-e))

pub loop-e-init : goal.loop-e-init
loop-e-init c = record {
  clocked = clocked (goal.at.loop-e-init c).After-tick;
  entry = refl;
  handled = omega arith;
}

pub bounds-server-j : goal.bounds-server-j
bounds-server-j c =
    small (goal.at.bounds-server-j c).After-first_id-j

pub bounds-e-j : goal.bounds-e-j
bounds-e-j c =
    small (goal.at.bounds-e-j c).After-first_id-j

pub arrives-requires : goal.arrives-requires
arrives-requires c =
    let k = c.loop-e.invariant.clocked in
    (below_at c.loop-e.e.loads k.loads c.first_id-j.result, tabled_work c.args.server.now k.server c.first_id-j.result)

-- one turn is one arrival
module _ (c : After-again) where
  abbrev e : Entry
  e = c.loop-e.e

  abbrev j : ℕ
  j = c.first_id-j.result

  abbrev after : Entry
  after = record { loads = set e.loads j c.arrives.new.l; arrivals = c.again.new.self; budget = e.budget }

  one : length e.loads ≡ entries → after ≡ one_arrival c.args.server.now e
  unfolding one_arrival
  one full =
      let s = c.args.server.now in
      let l =
      ap (set e.loads j) c.arrives.ensures.0
      ∙ set_alter (load_after (task_at s j).work.0) e.loads j zero_load (rw full (small (goal.at.After-again c).After-first_id-j)) in
      let q : c.again.new.self ≡ again_step max_gap e.arrivals (task_delay s j) = rw c.period.ensures at c.again.ensures in
      let d = c.first_id-j.ensures in
      let m = l ∙ (λ k. with_arrival (task_at s (d k)).work.0 (d k) e.loads) in
      let p = q ∙ (λ k. again_step max_gap e.arrivals (task_delay s (d k))) in
      λ k. record { loads = m k; arrivals = p k; budget = e.budget }

pub overflow_add-arrived : goal.overflow_add-arrived
overflow_add-arrived c =
    let few = arrivals_few _ _ (clocked (goal.at.overflow_add-arrived c).After-tick) in
    omega (arith, c.loop-e.invariant.handled, few, arrival_less _ _ (arriving (goal.at.overflow_add-arrived c).In-loop-e))

pub loop-e-smaller : goal.loop-e-smaller
loop-e-smaller c =
    let h : length c.loop-e.e.loads ≡ entries = search rules in
    rw (one (goal.at.loop-e-smaller c).After-again h) (omega (arith, arrival_less _ _ (arriving (goal.at.loop-e-smaller c).In-loop-e)))

pub loop-e-preserved : goal.loop-e-preserved
loop-e-preserved c =
    let i = c.loop-e.invariant in
    let a = arriving (goal.at.loop-e-preserved c).In-loop-e in
    let h : length c.loop-e.e.loads ≡ entries = search rules in
    rw (one (goal.at.loop-e-preserved c).After-again h)
    record { clocked = arrival_clocked _ _ a; entry = i.entry ∙ arrival_same _ _ a; handled = omega (arith, i.handled, arrival_less _ _ a) }

pub returns : goal.returns
returns c =
    let s = c.args.server.now in
    let e = c.args.e.now in
    let i = c.loop-e.invariant in
    let n = arrivals_none _ _ i.clocked (sym c.loop-e-test.ensures) in
    let end = i.entry ∙ ap (λ (t : EntryTurn). t.entry) n in
    let all = (λ k. due_turn s (with_queue (c.tick.ensures k) e)) ∙ sym (served_ticked s e c.requires.server c.requires.entry) in
    let count = ap (λ (t : EntryTurn). t.handled) n in
    let h : c.loop-e.arrived ≡ (due_turn s (with_queue c.tick.new.self e)).handled = omega (arith, i.handled, count) in
    (λ k. record { entry = sym end k; handled = h k }) ∙ all
