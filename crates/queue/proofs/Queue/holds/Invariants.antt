-- `queue::Queue::holds` meets its contract: what it keeps of the cells passed is `Looked` of them, and behind the last the flags say what is there.
use Prim.Native.Nat.{◌*◌, ◌≤◌}
use lib.ListN.{take}
use Rattle.queue.specs.Limits.{max_gap}
use Rattle.queue.specs.Holds.{in_ticks}
use Rattle.queue.proofs.Holding.{Looked}
use Rattle.queue.proofs.Queue.holds.Given as goal

abbrev pub invariant-loop-c : goal.invariant-loop-c
invariant-loop-c l =
    (l.at ≤ max_gap * l.c-index) × Looked (in_ticks l.reach) (take l.c-index l.c-items) l.seen l.at
