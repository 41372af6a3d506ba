use Rattle.std.proofs.Common.{◌≡◌, ◌∙◌, ◌∷◌, ◌+◌, ◌≤◌, get_or, drop, arith}
use Rattle.std.proofs.lemmas.List.{drop_more}
use Rattle.queue.specs.Row.{cell}
use Rattle.queue.proofs.Walking.{walked_pass, pass_next, pass_near, place_pass}
use Rattle.queue.proofs.Walk.within.Goals as goal
use Rattle.queue.proofs.Walk.within.Goals.{In-loop-c}

-- the cell that stands next
step : (c : In-loop-c) → let cs = c.args.row.now in let i = c.loop-c.w.next in drop i cs ≡ get_or cs c.loop-c.c-index (cell 0 0) ∷ drop (i + 1) cs
step c = rw c.loop-c.invariant.0 (drop_more c.args.row.now c.loop-c.c-index (cell 0 0) c.loop-c-test.true)

pub loop-c-preserved : goal.loop-c-preserved
loop-c-preserved c =
    let l = c.loop-c in
    let cs = c.args.row.now in
    let x = get_or cs l.c-index (cell 0 0) in
    let h : l.w.at + x.gap ≤ c.args.d = rw c.from.ensures at c.if-d-w.false in
    rw c.past-w.ensures (
      pass_next l.w x ∙ rw l.invariant.0,
      walked_pass cs l.w x l.invariant.1 (omega arith) (omega arith),
      pass_near _ l.w x h,
      λ M id. l.invariant.3 M id ∙ place_pass M id cs l.w x l.invariant.1.start_by (step (goal.at.loop-c-preserved c).In-loop-c) _ h,
    )
