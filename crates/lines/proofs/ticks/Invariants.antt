-- `lines::ticks` meets its contract. The loop's invariant: the lines of the first i answers stand in the buffer. There is room for all of them. Assumes nothing.
use Rattle.lines.specs.Lines.{answer_lines}
use Rattle.lines.proofs.Pieces.{Puts}
use Rattle.lines.proofs.ticks.Given as goal

abbrev pub invariant-loop-i : goal.invariant-loop-i
invariant-loop-i l =
    Puts l.at (answer_lines l.first l.i l.answers) l.initial.out l.p l.out
