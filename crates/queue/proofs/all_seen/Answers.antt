use Rattle.std.proofs.Common.{◌≡◌, sym, ◌∙◌, true, false, ltb, ◌+◌, get_or, drop, arith, add-one}
use Rattle.std.proofs.lemmas.List.{drop_more, drop_all}
use borrow.Author.Tests.{lt-ltb, le-ltb}
use Rattle.small.specs.Small.{pick, both}
use Rattle.queue.specs.Holds.{in_ticks}
use Rattle.queue.specs.Moves.{seenb}
use Rattle.queue.proofs.Holding.{ticks_length, ticks_at}
use Rattle.queue.proofs.all_seen.Goals as goal
use Rattle.queue.proofs.all_seen.Goals.{In-loop-i, else-most-gt0-via-then-most-gt0+else-not-seen-i, else-most-gt0-via-else-most-gt0}

-- one reach more
step : (c : In-loop-i) → let i = c.loop-i.i in let reach = c.args.reach.now in
    seenb (in_ticks reach) 0 c.args.seen.now
    ≡ both (pick (ltb 0 (get_or reach i (record { 0 = 0 })).0) (get_or c.args.seen.now i false) true) (seenb (drop (i + 1) (in_ticks reach)) (i + 1) c.args.seen.now)
step c =
    let i = c.loop-i.i in
    let reach = c.args.reach.now in
    c.loop-i.invariant ∙ rw (drop_more (in_ticks reach) i 0 (omega (arith, ticks_length reach)), ticks_at reach i (record { 0 = 0 }) (omega arith), add-one)

pub returns-then-not-seen-i : goal.returns-then-not-seen-i
returns-then-not-seen-i c =
    sym (step (goal.at.returns-then-not-seen-i c).In-loop-i ∙ rw (lt-ltb 0 (get_or c.args.reach.now c.loop-i.i (record { 0 = 0 })).0 c.if-most-gt0.true, c.if-not-seen-i.true))

pub loop-i-preserved : goal.loop-i-preserved
loop-i-preserved c =
    let most = get_or c.args.reach.now c.loop-i.i (record { 0 = 0 }) in
    let here = step (goal.at.loop-i-preserved c).In-loop-i in
    elim c.else-most-gt0.branch [
      | else-most-gt0-via-then-most-gt0+else-not-seen-i w ↦ here ∙ rw (lt-ltb 0 most.0 w.if-most-gt0.true, w.if-not-seen-i.false)
      | else-most-gt0-via-else-most-gt0 w ↦ here ∙ rw (le-ltb 0 most.0 w.if-most-gt0.false)
    ]

pub returns : goal.returns
returns c =
    sym (c.loop-i.invariant ∙ rw (drop_all c.loop-i.i (in_ticks c.args.reach.now) (omega (arith, ticks_length c.args.reach.now))))
