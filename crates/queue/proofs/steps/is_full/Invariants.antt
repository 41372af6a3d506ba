-- `queue::steps::is_full` meets its contract: behind the fillers that are passed, the answer is that of what is left.
use mathlib.Core.Path.{◌≡◌}
use lib.ListN.{drop}
use Rattle.queue.specs.Limits.{max_gap}
use Rattle.queue.specs.Moves.{fullb}
use Rattle.queue.proofs.steps.is_full.Given as goal

abbrev pub invariant-loop-c : goal.invariant-loop-c
invariant-loop-c l =
    fullb max_gap l.cells ≡ fullb max_gap (drop l.c-index l.cells)
