-- "A queue alone is sound if it is in normal form, its events' ids differ, no distance is above 1,000,000, and cells past the last are zero."
-- M is the largest gap and D the longest distance.
use Rattle.std.specs.Prelude.{Bool, true, false, not, List, [], ◌∷◌, ℕ, leb, eqb}
use Rattle.small.specs.Small.{pick, both}
use Rattle.queue.specs.Limits.{cell_count}
use Rattle.queue.specs.Row.{Event, queue_of, events_of, normal}
use Rattle.queue.specs.declared.Cell.{Cell}
use Rattle.queue.specs.declared.Queue.{Queue}

abbrev pub same_cell : Cell → Cell → Bool
same_cell a b = both (eqb a.id b.id) (eqb a.gap b.gap)

abbrev pub same_cells : List Cell → List Cell → Bool
same_cells [] [] = true
same_cells [] (b ∷ bs) = false
same_cells (a ∷ rest) [] = false
same_cells (a ∷ rest) (b ∷ bs) = both (same_cell a b) (same_cells rest bs)

-- the same queue, the cells past the last too
unfoldable pub sameb : Queue → Queue → Bool
sameb q p = both (eqb q.len p.len) (same_cells q.cells p.cells)

-- an event with this id is there
abbrev pub hasb : ℕ → List Event → Bool
hasb id [] = false
hasb id (e ∷ es) = pick (eqb e.id id) true (hasb id es)

-- the ids differ
abbrev pub distinctb : List Event → Bool
distinctb [] = true
distinctb (e ∷ es) = both (not (hasb e.id es)) (distinctb es)

-- no distance is above D
abbrev pub nearb : ℕ → List Event → Bool
nearb D [] = true
nearb D (e ∷ es) = both (leb e.at D) (nearb D es)

-- in normal form, with zero past the last: the queue is what the normal form of its own events gives, and nothing besides
unfoldable pub soundb : ℕ → ℕ → Queue → Bool
soundb M D q =
    both (leb q.len cell_count)
    (both (sameb q (queue_of (normal M 0 (events_of q)))) (both (distinctb (events_of q)) (nearb D (events_of q))))
