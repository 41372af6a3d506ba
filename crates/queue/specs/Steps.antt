-- The total steps on a row: an outcome for every queue, sound or not, with no check of the whole. Where a call on a
-- sound queue would not be refused, the step is the call (proofs/Same.antt). A scheduler that has checked its state once goes by these.
use Rattle.std.specs.Prelude.{Bool, List, [], ◌∷◌, ◌++◌, ℕ, ◌+◌, ◌-◌, leb, ltb, eqb, length, drop, get_or}
use Rattle.small.specs.Small.{pick, both}
use Rattle.refusal.specs.Numbers.{no_room, unsound}
use Rattle.refusal.specs.Refusal.{check, first_of}
use Rattle.queue.specs.Limits.{cell_count, filler}
use Rattle.queue.specs.Row.{cell, cells_of, cells_for}
use Rattle.queue.specs.Calls.{Changed, changed}
use Rattle.queue.specs.declared.Cell.{Cell}
use Rattle.queue.specs.declared.Queue.{Queue}

-- what stands first
abbrev pub first_cell : Queue → Cell
first_cell q = get_or q.cells 0 (cell 0 0)

-- a cell is in use, and its gap is 0
unfoldable pub due_step : Queue → Bool
due_step q = both (ltb 0 q.len) (eqb (first_cell q).gap 0)

-- the first gap falls by 1, where it is not 0
abbrev pub less_head : List Cell → List Cell
less_head [] = []
less_head (c ∷ cs) = cell c.id (c.gap - 1) ∷ cs

unfoldable pub nearer_step : Queue → Queue
nearer_step q = record { cells = less_head q.cells; len = q.len }

-- the first cell goes, every other in use stands one place further down, and the last one's place is zero
unfoldable pub rest_step : Queue → Queue
rest_step q =
    pick (both (leb 1 q.len) (leb q.len cell_count))
    (record { cells = drop 1 (cells_of q) ++ (cell 0 0 ∷ drop q.len q.cells); len = q.len - 1 })
    q

-- a clock tick: the first gap falls by 1, and a filler that reaches 0 goes
unfoldable pub tick_step : Queue → Queue
tick_step q =
    pick (eqb q.len 0) q (pick (both (eqb (first_cell q).id filler) (eqb (first_cell q).gap 1)) (rest_step q) (nearer_step q))

-- no cell is in use
unfoldable pub empty_step : Queue → Bool
empty_step q = eqb q.len 0

-- the first gap falls at a clock tick and stays above 0
unfoldable pub falls_step : Queue → Bool
falls_step q = ltb 1 (first_cell q).gap

-- what stands up to the next event, counted from t, put together anew so that it counts from u
abbrev pub regrouped : ℕ → ℕ → ℕ → List Cell → List Cell
regrouped M t u [] = []
regrouped M t u (c ∷ cs) =
    pick (eqb c.id filler) (regrouped M (t + c.gap) u cs) (cells_for M (t + c.gap - u) c.id ++ cs)

-- the cells with an event at distance d more: u is the distance of the event before, t that of the cell before, and `held` the fillers between them
abbrev pub place_from : ℕ → ℕ → ℕ → ℕ → ℕ → List Cell → List Cell → List Cell
place_from M id d u t held [] = cells_for M (d - u) id
place_from M id d u t held (c ∷ cs) =
    pick (leb (t + c.gap) d)
    (pick (eqb c.id filler)
    (place_from M id d u (t + c.gap) (held ++ (c ∷ [])) cs)
    (held ++ (c ∷ place_from M id d (t + c.gap) (t + c.gap) [] cs)))
    (cells_for M (d - u) id ++ regrouped M t d (c ∷ cs))

abbrev pub place_cells : ℕ → ℕ → ℕ → List Cell → List Cell
place_cells M id d cs = place_from M id d 0 0 [] cs

-- an event put in without a test of what the queue holds: only the room is looked at, and the array past the row stays as it is
unfoldable pub place_step : ℕ → Queue → ℕ → ℕ → Changed
place_step M q id d =
    let row = place_cells M id d (cells_of q) in
    changed (first_of (check unsound (ltb cell_count q.len) ∷ check no_room (ltb cell_count (length row)) ∷ [])) q
    (record { cells = row ++ drop (length row) q.cells; len = length row })

-- the first cell goes, and its event is put in again, d away; where there is no room it is gone
unfoldable pub again_step : ℕ → Queue → ℕ → Queue
again_step M q d = (place_step M (rest_step q) (first_cell q).id d).queue
