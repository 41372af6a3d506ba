-- `queue::Queue::place` meets its contract: by `Passed` and `Regrouped` the row is the cells up to the event before, the new event's, and those behind it counted
-- from it; the code counts them first, and then puts them there (`spliced_row`).
use Rattle.std.proofs.Common.{◌≡◌, ap, ◌∙◌, ◌++◌, ◌+◌, ◌-◌, ◌≤◌, take, length, arith}
use borrow.Author.Tests.{lt-ltb, le-ltb}
use Rattle.queue.specs.Limits.{max_gap, cell_count}
use Rattle.queue.specs.Row.{cells_of, fillers_for}
use Rattle.queue.specs.Calls.{accepted_with}
use Rattle.queue.specs.Steps.{place_cells, place_step}
use Rattle.queue.specs.Moves.{chain_for, Passed}
use Rattle.queue.specs.declared.Chain.{Chain}
use Rattle.queue.proofs.Cells.{cells_length}
use Rattle.queue.proofs.Moving.{chain_cells, pieces, spliced_length, spliced_row}
use Rattle.queue.proofs.Queue.place.Goals as goal
use Rattle.queue.proofs.Queue.place.Goals.{After-regroup-rest, After-within-w, Else-self-gt-CELLS}

full : (c : Else-self-gt-CELLS) → length c.args.self.now.cells ≡ cell_count
full c = omega arith

in_row : (c : After-within-w) → length (cells_of c.args.self.now) ≡ c.args.self.now.len
in_row c = cells_length c.args.self.now (full (goal.at.After-within-w c).Else-self-gt-CELLS) c.if-self-gt-CELLS.false

-- the walk is one over the cells in use
walk : (c : After-within-w) → Passed (cells_of c.args.self.now) c.args.delay.0 c.within-w.result
walk c = rw c.row.ensures.cells at c.within-w.ensures

-- the numbers that are added up are small
small : (c : After-regroup-rest) → let q = c.args.self.now in
    (c.within-w.result.start ≤ q.len) × (c.regroup-rest.result.behind ≤ q.len) × (c.of-own.result.cells ≤ 65538) × (c.regroup-rest.result.then.cells ≤ 65538)
unfolding chain_for
small c =
    let w = (walk (goal.at.After-regroup-rest c).After-within-w).walked in
    let l = in_row (goal.at.After-regroup-rest c).After-within-w in
    let o : c.of-own.result.cells ≡ fillers_for max_gap (c.args.delay.0 - c.within-w.result.last) + 1 = ap (λ (x : Chain). x.cells) c.of-own.ensures in
    (omega (arith, w.start_by, w.in_row), omega (arith, c.regroup-rest.ensures.in_row), omega arith, c.regroup-rest.ensures.few)

-- the row: up to the new event, its cells, those of the next, and what stands behind
row : (c : After-regroup-rest) → let q = c.args.self.now in let w = c.within-w.result in let s = small c in
    place_cells max_gap c.args.id c.args.delay.0 (cells_of q)
    ≡ take w.start (cells_of q) ++ pieces q (full (goal.at.After-regroup-rest c).Else-self-gt-CELLS) c.if-self-gt-CELLS.false w.start c.of-own.result c.regroup-rest.result s.0 s.1
row c =
    (walk (goal.at.After-regroup-rest c).After-within-w).row max_gap c.args.id
    ∙ rw (c.regroup-rest.ensures.row, c.of-own.ensures, chain_cells max_gap (c.args.delay.0 - c.within-w.result.last) c.args.id)

row_length : (c : After-regroup-rest) → let q = c.args.self.now in let w = c.within-w.result in let rest = c.regroup-rest.result in
    length (place_cells max_gap c.args.id c.args.delay.0 (cells_of q)) ≡ w.start + c.of-own.result.cells + rest.then.cells + (q.len - rest.behind)
row_length c =
    let s = small c in
    spliced_length c.args.self.now (full (goal.at.After-regroup-rest c).Else-self-gt-CELLS) c.if-self-gt-CELLS.false c.within-w.result.start c.of-own.result c.regroup-rest.result s.0 s.1 _ (row c)

pub returns-then-self-gt-CELLS : goal.returns-then-self-gt-CELLS
unfolding place_step
returns-then-self-gt-CELLS c =
    rw (lt-ltb cell_count c.args.self.now.len c.if-self-gt-CELLS.true)

pub regroup-rest-requires : goal.regroup-rest-requires
regroup-rest-requires c =
    let w = (walk (goal.at.regroup-rest-requires c).After-within-w).walked in
    let l = in_row (goal.at.regroup-rest-requires c).After-within-w in
    (w.in_row, omega (arith, w.small, w.in_row))

pub overflow_add-len : goal.overflow_add-len
overflow_add-len c =
    let s = small (goal.at.overflow_add-len c).After-regroup-rest in omega (arith, s.0, s.2)

pub overflow_add-len-2 : goal.overflow_add-len-2
overflow_add-len-2 c =
    let s = small (goal.at.overflow_add-len-2 c).After-regroup-rest in omega (arith, s.0, s.2, s.3)

pub overflow_sub-len : goal.overflow_sub-len
overflow_sub-len c =
    (small (goal.at.overflow_sub-len c).After-regroup-rest).1

pub overflow_add-len-3 : goal.overflow_add-len-3
overflow_add-len-3 c =
    let s = small (goal.at.overflow_add-len-3 c).After-regroup-rest in omega (arith, s.0, s.2, s.3)

pub splice-requires-clause-within : goal.splice-requires-clause-within
splice-requires-clause-within c =
    (small (goal.at.splice-requires-clause-within c).After-regroup-rest).1

pub returns-then-len-gt-CELLS : goal.returns-then-len-gt-CELLS
unfolding place_step
returns-then-len-gt-CELLS c =
    let n = row_length (goal.at.returns-then-len-gt-CELLS c).After-regroup-rest in
    rw (le-ltb cell_count c.args.self.now.len c.if-self-gt-CELLS.false, lt-ltb cell_count (length (place_cells max_gap c.args.id c.args.delay.0 (cells_of c.args.self.now))) (omega arith))

pub returns : goal.returns
unfolding place_step
returns c =
    let q = c.args.self.now in
    let t = (goal.at.returns c).After-regroup-rest in
    let n = row_length t in
    let s = small t in
    rw (le-ltb cell_count q.len c.if-self-gt-CELLS.false, le-ltb cell_count (length (place_cells max_gap c.args.id c.args.delay.0 (cells_of q))) (omega arith))
    (ap accepted_with (c.splice.ensures ∙ spliced_row q (full (goal.at.returns c).Else-self-gt-CELLS) c.if-self-gt-CELLS.false c.within-w.result.start c.of-own.result c.regroup-rest.result s.0 s.1 _ (row t) (omega arith)))
