-- `queue::all_seen` meets its contract: what is left to look at is the rest of the reaches.
use mathlib.Core.Path.{◌≡◌}
use lib.ListN.{drop}
use Rattle.queue.specs.Holds.{in_ticks}
use Rattle.queue.specs.Moves.{seenb}
use Rattle.queue.proofs.all_seen.Given as goal

abbrev pub invariant-loop-i : goal.invariant-loop-i
invariant-loop-i l =
    seenb (in_ticks l.reach) 0 l.seen ≡ seenb (drop l.i (in_ticks l.reach)) l.i l.seen
