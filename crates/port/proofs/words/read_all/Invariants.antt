-- `words::read_all` meets its contract. The loop's invariant: the things before the one at i are those that the words hold (`Held`, proofs/Many.antt).
use Rattle.port.proofs.Many.{Held}
use Rattle.port.proofs.words.read_all.Given as goal

abbrev pub invariant-loop-i : goal.invariant-loop-i
invariant-loop-i g l =
    Held g.T.Words.SIZE g.T.Words.held g.row.N l.w l.i l.all
