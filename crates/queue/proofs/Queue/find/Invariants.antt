-- `queue::Queue::find` meets its contract: while no cell that is passed has the id, what is sought is still to be found behind them.
use mathlib.Core.Path.{◌≡◌}
use Prim.Native.Nat.{ℕ}
use lib.ListN.{drop}
use Rattle.queue.specs.Row.{events_from}
use Rattle.queue.specs.Sound.{hasb}
use Rattle.queue.specs.Calls.{distance_of}
use Rattle.queue.specs.Moves.{Walked, remove_cells}
use Rattle.queue.proofs.Walking.{removing}
use Rattle.queue.proofs.Queue.find.Given as goal

abbrev pub invariant-loop-c : goal.invariant-loop-c
invariant-loop-c l =
    let cs = l.c-items in
    let behind = events_from l.w.at (drop l.w.next cs) in
    (l.w.next ≡ l.c-index) × Walked cs l.w × ((M : ℕ) → remove_cells M l.id cs ≡ removing M l.id cs l.w)
    × (hasb l.id (events_from 0 cs) ≡ hasb l.id behind) × (distance_of l.id (events_from 0 cs) ≡ distance_of l.id behind)
