-- `lines::have_room` meets its contract. The loop's invariant: what is left and the length of the first i lines are what there was. Assumes nothing.
use mathlib.Core.Path.{◌≡◌}
use Prim.Native.Nat.{◌+◌}
use lib.ListN.{length}
use Rattle.lines.specs.Lines.{answer_lines}
use Rattle.lines.proofs.have_room.Given as goal

abbrev pub invariant-loop-i : goal.invariant-loop-i
invariant-loop-i l =
    l.at + (l.rest + length (answer_lines l.first l.i l.answers)) ≡ length l.out
