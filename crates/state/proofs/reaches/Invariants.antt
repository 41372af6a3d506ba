-- `state::reaches` meets its contract. The loop's invariant: the reaches stored below i, and those of the others from i on, are the whole.
use mathlib.Core.Path.{◌≡◌}
use mathlib.Core.List.{◌++◌, map}
use lib.ListN.{length, drop, take}
use Rattle.queue.specs.Holds.{in_ticks}
use Rattle.table.specs.Limits.{entries}
use Rattle.state.proofs.reaches.Given as goal

abbrev pub invariant-loop-i : goal.invariant-loop-i
invariant-loop-i g l =
    (length l.out ≡ entries) × (take l.i (in_ticks l.out) ++ map g.T.Timed.reach (drop l.i l.timed) ≡ map g.T.Timed.reach l.timed)
