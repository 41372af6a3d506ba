-- `words::put_all` meets its contract. The loop's invariant: the words of the first i things are written (`Put`, proofs/Many.antt).
use Rattle.port.proofs.Many.{Put}
use Rattle.port.proofs.words.put_all.Given as goal

abbrev pub invariant-loop-i : goal.invariant-loop-i
invariant-loop-i g l =
    Put g.T.Words.words g.T.Words.SIZE l.all l.initial.w l.i l.w
