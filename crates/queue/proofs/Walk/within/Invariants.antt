-- `queue::Walk::within` meets its contract: while the cells that are passed are at most d away, what is still to place stands behind them.
use mathlib.Core.Path.{◌≡◌}
use Prim.Native.Nat.{ℕ, ◌≤◌}
use Rattle.queue.specs.Steps.{place_cells}
use Rattle.queue.specs.Moves.{Walked}
use Rattle.queue.proofs.Walking.{placing}
use Rattle.queue.proofs.Walk.within.Given as goal

abbrev pub invariant-loop-c : goal.invariant-loop-c
invariant-loop-c l =
    (l.w.next ≡ l.c-index) × Walked l.row l.w × (l.w.at ≤ l.d) × ((M id : ℕ) → place_cells M id l.d l.row ≡ placing M id l.d l.row l.w)
