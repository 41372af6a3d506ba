use mathlib.Core.Path.{sym, ap, ◌∙◌}
use native.Mathlib.Omega.{arith}
use borrow.Author.Tests.{not-true, not-false}
use Rattle.queue.specs.Calls.{Changed}
use Rattle.state.specs.Fresh.{fresh_queue}
use Rattle.state.proofs.Freshly.{put_step, put_end}
use Rattle.state.proofs.first_events.Goals as goal
use Rattle.state.proofs.first_events.Goals.{then-ne, else-ne}

pub loop-i-init : goal.loop-i-init
unfolding fresh_queue
loop-i-init g c =
    rw c.empty-q.ensures

pub loop-i-preserved : goal.loop-i-preserved
loop-i-preserved g c =
    let k = c.loop-i in
    let f = c.index-timed-i.result in
    put_step g.T.Timed.away c.args.timed.now k.i k.q k.invariant f (omega arith) (elim c.if-ne.branch [
      | then-ne w ↦ rw (← c.first_away-away.ensures, not-true _ (sym w.if-ne.ensures)) (w.q-is ∙ ap (λ (x : Changed). x.queue) w.insert.ensures)
      | else-ne w ↦ rw (← c.first_away-away.ensures, not-false _ (sym w.if-ne.ensures)) w.q-is
    ])

pub returns : goal.returns
returns g c =
    put_end g.T.Timed.away c.args.timed.now c.loop-i.i c.loop-i.q c.loop-i.invariant (omega arith)
