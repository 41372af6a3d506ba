use Rattle.std.proofs.Common.{◌≡◌, sym, ap, ◌∙◌, false, eqb, List, ◌+◌, ◌-◌, ◌/◌, ◌<◌, get_or, take, drop, length, length-drop, arith}
use Rattle.std.proofs.lemmas.List.{drop_more, drop_all, take_all}
use lib.Seq.{get_or-drop}
use Rattle.queue.specs.Limits.{filler}
use Rattle.queue.specs.Row.{cell}
use Rattle.queue.specs.Moves.{chain_for}
use Rattle.queue.specs.declared.Cell.{Cell}
use Rattle.queue.specs.declared.Chain.{Chain}
use Rattle.queue.proofs.Moving.{chain_cells}
use Rattle.queue.proofs.Queue.regroup.Goals as goal
use Rattle.queue.proofs.Queue.regroup.Goals.{After-row-row}

-- the cells from the place on
abbrev rest : (c : After-row-row) → List Cell
rest c = take (length c.row-row.result.now - c.args.from) (drop c.args.from c.row-row.result.now)

rest_is : (c : After-row-row) → rest c ≡ drop c.args.from c.row-row.result.now
rest_is c = take_all _ (drop c.args.from c.row-row.result.now) (rw length-drop (omega arith))

pub returns-then-not-is_filler : goal.returns-then-not-is_filler
unfolding chain_for
returns-then-not-is_filler c =
    let l = c.loop-i in
    let cs = c.row-row.result.now in
    let b = (goal.at.returns-then-not-is_filler c).After-row-row in
    let n : length (drop c.args.from cs) ≡ length cs - c.args.from = length-drop c.args.from cs in
    let h : l.i < length (drop c.args.from cs) = rw (rest_is b) at c.loop-i-test.true in
    let x = get_or cs (c.args.from + l.i) (cell 0 0) in
    let e : get_or (rest b) l.i (cell 0 0) ≡ x = rw (rest_is b) (get_or-drop c.args.from cs l.i (cell 0 0)) in
    let f : eqb x.id filler ≡ false = rw e at (sym c.is_filler.ensures ∙ c.if-not-is_filler.true) in
    let k : c.of.result.cells ≡ (c.saturating_sub.result - 1) / 65535 + 1 = ap (λ (y : Chain). y.cells) c.of.ensures in
    rw (← c.row-row.ensures.cells)
    (record {
      in_row = omega arith;
      few = omega arith;
      row = l.invariant.1 ∙ rw (drop_more cs (c.args.from + l.i) (cell 0 0) (omega arith), f, c.of.ensures, chain_cells, c.saturating_sub.ensures, c.from-at.ensures, e);
    })

pub returns : goal.returns
returns c =
    let l = c.loop-i in
    let cs = c.row-row.result.now in
    let b = (goal.at.returns c).After-row-row in
    let n : length (drop c.args.from cs) ≡ length cs - c.args.from = length-drop c.args.from cs in
    let h = rw (rest_is b) at c.loop-i-test.false in
    rw (← c.row-row.ensures.cells)
    (record {
      in_row = omega arith;
      few = omega arith;
      row = l.invariant.1 ∙ rw (drop_all (c.args.from + l.i) cs (omega arith), drop_all (length cs) cs (omega arith));
    })
