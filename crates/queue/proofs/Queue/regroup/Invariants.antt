-- `queue::Queue::regroup` meets its contract: behind the fillers that are passed, what is left is still what is asked for.
use mathlib.Core.Path.{◌≡◌}
use Prim.Native.Nat.{◌+◌, ◌*◌, ◌≤◌}
use lib.ListN.{drop}
use Rattle.queue.specs.Limits.{max_gap}
use Rattle.queue.specs.Steps.{regrouped}
use Rattle.queue.proofs.Queue.regroup.Given as goal

abbrev pub invariant-loop-i : goal.invariant-loop-i
invariant-loop-i l =
    (l.at ≤ l.t + max_gap * l.i) × (regrouped max_gap l.t l.u (drop l.from l.row) ≡ regrouped max_gap l.at l.u (drop (l.from + l.i) l.row))
