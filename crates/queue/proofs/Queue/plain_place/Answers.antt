-- `queue::Queue::plain_place` meets its contract: the walk past the cells behind the first leads to the place, and the test is that of a plain one (proofs/Passing.antt).
use Rattle.std.proofs.Common.{◌≡◌, sym, ◌∙◌, true, ◌+◌, ◌-◌, ◌≤◌, ◌<◌, get_or, drop, length, length-drop, arith}
use Rattle.std.proofs.lemmas.List.{take_all}
use native.Mathlib.Decide.{dec_lt}
use borrow.Author.Tests.{leb-true}
use Rattle.queue.specs.Limits.{max_gap, cell_count}
use Rattle.queue.specs.Row.{cell, cells_of}
use Rattle.queue.specs.Steps.{first_cell, again_step}
use Rattle.queue.specs.Moves.{Passed, plainb}
use Rattle.queue.proofs.Cells.{cells_length, cells_end}
use Rattle.queue.proofs.Passing.{passed_behind, passed_beyond, again_last, again_within}
use Rattle.queue.proofs.Queue.plain_place.Goals as goal
use Rattle.queue.proofs.Queue.plain_place.Goals.{After-within-w, Else-not-is_plain, Start}

full : (c : Start) → length c.args.self.now.cells ≡ cell_count
full c = omega arith

-- the walk is one over the cells in use behind the first
walk : (c : After-within-w) → Passed (drop 1 (cells_of c.args.self.now)) c.args.d c.within-w.result
walk c =
    let cs = c.row.result.now in
    rw (take_all (length cs - 1) (drop 1 cs) (rw length-drop (omega arith)), c.row.ensures.cells) at c.within-w.ensures

-- it leads to a place in the row, behind no filler
place : (c : Else-not-is_plain) → let w = c.within-w.result in (w.start ≡ w.next) × (w.next < c.args.self.now.len)
place c =
    let p = walk (goal.at.Else-not-is_plain c).After-within-w in
    let l : length (drop 1 (cells_of c.args.self.now)) ≡ c.args.self.now.len - 1 =
    rw (length-drop, cells_length c.args.self.now (full (goal.at.Else-not-is_plain c).Start) c.if-self-gt-CELLS.false) in
    (omega (arith, p.walked.start_by, c.if-w.false), omega (arith, p.walked.in_row))

plainly : (c : Else-not-is_plain) → let w = c.within-w.result in plainb max_gap (c.args.d - w.at) (drop (w.next + 1) (cells_of c.args.self.now)) ≡ true
plainly c =
    let q = c.args.self.now in
    let w = c.within-w.result in
    let s = place c in
    let cs = c.row.result.now in
    let r = take_all (length cs - 1) (drop 1 cs) (rw length-drop (omega arith)) in
    let b = passed_behind q (full (goal.at.Else-not-is_plain c).Start) c.if-self-gt-CELLS.false max_gap 0 c.args.d w (walk (goal.at.Else-not-is_plain c).After-within-w) s.0 s.1 (omega arith) in
    let t = take_all (length (drop 1 cs) - w.next) (drop w.next (drop 1 cs)) (rw length-drop (omega arith)) in
    rw (r, t, c.row.ensures.cells, b) at (sym c.is_plain.ensures ∙ c.if-not-is_plain.false)

beyond : (c : Else-not-is_plain) → let q = c.args.self.now in let w = c.within-w.result in w.next + 1 < q.len
    → let x = get_or q.cells (w.next + 1) (cell 0 0) in (c.args.d < w.at + x.gap) × (x.gap ≤ max_gap)
beyond c =
    let s = place c in
    passed_beyond c.args.self.now (full (goal.at.Else-not-is_plain c).Start) c.if-self-gt-CELLS.false max_gap 0 c.args.d c.within-w.result (walk (goal.at.Else-not-is_plain c).After-within-w) s.0 s.1 (omega arith)

-- the event's gap fits a cell
small : (c : Else-not-is_plain) → c.args.d - c.within-w.result.at ≤ max_gap
small c = go (dec_lt (c.within-w.result.next + 1) c.args.self.now.len)
  where
    go : Dec (c.within-w.result.next + 1 < c.args.self.now.len) → c.args.d - c.within-w.result.at ≤ max_gap
    go (yes h) = let b = beyond c h in omega (arith, b.0, b.1)
    go (no h) =
        leb-true _ max_gap (rw (cells_end c.args.self.now (full (goal.at.Else-not-is_plain c).Start) c.if-self-gt-CELLS.false (c.within-w.result.next + 1) (omega (arith, h))) at (plainly c))

pub slice_bounds-rest-count : goal.slice_bounds-rest-count
slice_bounds-rest-count c =
    omega arith

pub overflow_cast-result : goal.overflow_cast-result
overflow_cast-result c =
    omega (arith, small (goal.at.overflow_cast-result c).Else-not-is_plain)

pub returns : goal.returns
unfolding again_step
returns c =
    let q = c.args.self.now in
    let w = c.within-w.result in
    let t = (goal.at.returns c).Else-not-is_plain in
    let n = full (goal.at.returns c).Start in
    let p = walk (goal.at.returns c).After-within-w in
    let s = place t in
    record {
      short = c.if-self-gt-CELLS.false;
      in_row = s.1;
      falls = λ h. let b = beyond t h in omega (arith, b.0);
      last = λ h. again_last q n c.if-self-gt-CELLS.false max_gap (first_cell q).id c.args.d w p s.0 s.1 (omega arith) h (small t);
      between = λ h. again_within q n c.if-self-gt-CELLS.false max_gap (first_cell q).id c.args.d w p s.0 s.1 (omega arith) h (plainly t);
    }
