-- `queue::Queue::end` meets its contract: what is summed, with the gaps of the cells that are left, is the sum of all.
use mathlib.Core.Path.{◌≡◌}
use Prim.Native.Nat.{◌+◌, ◌*◌, ◌≤◌}
use lib.ListN.{drop}
use Rattle.queue.specs.Limits.{max_gap}
use Rattle.queue.specs.Moves.{gaps_of}
use Rattle.queue.proofs.Queue.end.Given as goal

abbrev pub invariant-loop-c : goal.invariant-loop-c
invariant-loop-c l =
    (l.at ≤ max_gap * l.c-index) × (l.at + gaps_of (drop l.c-index l.c-items) ≡ gaps_of l.c-items)
