use mathlib.Core.Path.{◌≡◌, refl, ap, ◌∙◌}
use native.Mathlib.Omega.{arith}
use lib.ListN.{length, get_or, set}
use lib.Seq.{set-get_or}
use Rattle.state.specs.declared.State.{State}
use Rattle.table.specs.Limits.{entries}
use Rattle.table.proofs.Sizes.{past_server}
use Rattle.scheduler.specs.Tick.{due_in}
use Rattle.scheduler.specs.Moves.{EntryTurn, charged_entries, refills_after}
use Rattle.scheduler.specs.Arrive.{with_entries}
use Rattle.scheduler.proofs.TickParts.{Serving, charged_refillable, handle_start, serve_tabled, serve_sound, serve_few, serve_more, tick_done}
use Rattle.scheduler.proofs.one_tick.Goals as goal
use Rattle.scheduler.proofs.one_tick.Goals.{After-handle_refills-handled, At-loop-i}

-- THE PLACES OF THE CODE, in its order

-- the state when the loop begins, and the count

begun : (c : After-handle_refills-handled) → c.handle_refills-handled.new.s ≡ refills_after (with_entries (charged_entries c.args.s.now) c.args.s.now)
begun c = c.handle_refills-handled.ensures.0 ∙ ap refills_after c.charge_chosen-choice.ensures.0

counted : (c : After-handle_refills-handled) → c.handle_refills-handled.result ≡ length (due_in c.args.s.now.refills)
counted c = c.handle_refills-handled.ensures.1 ∙ ap (λ (x : State). length (due_in x.refills)) c.charge_chosen-choice.ensures.0

-- in the loop
serving : (c : At-loop-i) → let m = c.handle_refills-handled.new.s in
    Serving c.loop-i.s.table m.entries c.handle_refills-handled.result c.loop-i.s.entries c.loop-i.handled c.loop-i.i
serving c = rw c.loop-i.invariant.table c.loop-i.invariant.serving

-- THE NEEDS

pub handle_refills-handled-requires : goal.handle_refills-handled-requires
handle_refills-handled-requires c =
    rw c.charge_chosen-choice.ensures.0 (charged_refillable c.args.s.now c.requires)

pub loop-i-init : goal.loop-i-init
loop-i-init c =
    let h = (goal.at.loop-i-init c).After-handle_refills-handled in
    record { serving = handle_start c.args.s.now c.requires (begun h) (counted h); table = refl; refills = refl }

pub handle_entry-handled-requires : goal.handle_entry-handled-requires
handle_entry-handled-requires c =
    let v = serving (goal.at.handle_entry-handled-requires c).At-loop-i in
    record { server = serve_tabled v c.loop-i-test.true; entry = serve_sound v c.loop-i-test.true }

pub overflow_add-handled : goal.overflow_add-handled
overflow_add-handled c =
    let v = serving (goal.at.overflow_add-handled c).At-loop-i in
    let n = ap (λ (t : EntryTurn). t.handled) c.handle_entry-handled.ensures in
    omega (arith, v.few, n, serve_few v c.loop-i-test.true, c.loop-i-test.true)

pub loop-i-preserved : goal.loop-i-preserved
loop-i-preserved c =
    let i = c.loop-i.invariant in
    let v = serve_more (serving (goal.at.loop-i-preserved c).At-loop-i) c.loop-i-test.true _ c.handle_entry-handled.ensures in
    let t = c.loop-i.s.table in
    let same : record { servers = set t.servers c.loop-i.i (get_or t.servers c.loop-i.i past_server); count = t.count } ≡ t = λ k. record { servers = set-get_or t.servers c.loop-i.i past_server k; count = t.count } in
    record { serving = rw i.table at v; table = same ∙ i.table; refills = i.refills }

pub returns : goal.returns
returns c =
    let i = c.loop-i.invariant in
    let h = (goal.at.returns c).After-handle_refills-handled in
    let last : c.loop-i.i ≡ entries = omega (arith, c.loop-i-test.false, c.loop-i.auto.i-end) in
    let d = tick_done c.args.s.now c.requires (begun h) (counted h) {x = c.loop-i.s} (rw last at i.serving) i.table i.refills in
    (d.0, λ k. record { choice = c.charge_chosen-choice.ensures.1 k; handled = d.1 k })
