-- `queue::Queue::total` meets its contract: what is summed, with the cells that are left, is the sum of all.
use mathlib.Core.Path.{◌≡◌}
use Prim.Native.Nat.{◌+◌, ◌*◌, ◌≤◌}
use lib.ListN.{drop}
use Rattle.queue.specs.Moves.{sum_of}
use Rattle.queue.proofs.Queue.total.Given as goal

abbrev pub invariant-loop-c : goal.invariant-loop-c
invariant-loop-c l =
    (l.sum ≤ 65790 * l.c-index) × (l.sum + sum_of (drop l.c-index l.self.cells) ≡ sum_of l.self.cells)
