-- `words::read_all` meets its contract: each turn reads the thing at its place (`held_more`), and so the array is those things (`held_all`). Assumes nothing.
use Rattle.port.proofs.Many.{behind_place, held_more, held_all}
use Rattle.port.proofs.words.read_all.Goals as goal

pub loop-i-preserved : goal.loop-i-preserved
loop-i-preserved g c =
    held_more g.T.Words.SIZE g.T.Words.held c.loop-i.invariant _ c.loop-i-test.true (rw (c.read.ensures, c.SIZE.ensures, behind_place _ _))

pub returns : goal.returns
returns g c =
    held_all g.T.Words.SIZE g.T.Words.held g.row.N c.args.w.now c.loop-i.i c.loop-i.all c.loop-i-test.false c.loop-i.invariant
