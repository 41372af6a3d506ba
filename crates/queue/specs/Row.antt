-- A row of cells, the events that it holds, and the normal form of events. Document 01, "The queue". M is the largest gap.
use Rattle.std.specs.Prelude.{List, [], ◌∷◌, ◌++◌, ℕ, zero, suc, ◌+◌, ◌-◌, ◌*◌, ◌/◌, eqb, length, take}
use Rattle.small.specs.Small.{pick, padded}
use Rattle.queue.specs.Limits.{cell_count, filler}
use Rattle.queue.specs.declared.Cell.{Cell}
use Rattle.queue.specs.declared.Queue.{Queue}

abbrev pub cell : ℕ → ℕ → Cell
cell id gap = record { id = id; gap = gap }

-- an event and its distance
pub record Event : Type 0 where
  pub id : ℕ
  pub at : ℕ

abbrev pub event : ℕ → ℕ → Event
event id at = record { id = id; at = at }

-- the cells in use
unfoldable pub cells_of : Queue → List Cell
cells_of q = take q.len q.cells

-- the queue that has these cells, and zero in every cell past the last
unfoldable pub queue_of : List Cell → Queue
queue_of cs = record { cells = padded (cell 0 0) cell_count cs; len = length cs }

-- what a cell at a distance is: a filler is no event
abbrev pub event_at : ℕ → ℕ → List Event
event_at id at = pick (eqb id filler) [] (event id at ∷ [])

-- "An event's distance is the sum of the gaps up to and with its own": the events of cells that are counted from t
abbrev pub events_from : ℕ → List Cell → List Event
events_from t [] = []
events_from t (c ∷ cs) = event_at c.id (t + c.gap) ++ events_from (t + c.gap) cs

-- "the first gap counts from now"
abbrev pub events_of : Queue → List Event
events_of q = events_from 0 (cells_of q)

-- k fillers and the event last: the first cell has gap r; "each other, the event included, has gap" M
abbrev pub chain : ℕ → ℕ → ℕ → ℕ → List Cell
chain M zero id r = cell id r ∷ []
chain M (suc k) id r = cell filler r ∷ chain M k id M

-- the fillers of a gap g: none up to M, and "as few cells as can hold g" beyond
abbrev pub fillers_for : ℕ → ℕ → ℕ
fillers_for M g = (g - 1) / M

-- the cells of an event at the distance g from the event before it (or now): "the first cell has what remains"
unfoldable pub cells_for : ℕ → ℕ → ℕ → List Cell
cells_for M g id = chain M (fillers_for M g) id (g - fillers_for M g * M)

-- the normal form of events, counted from t. "No filler follows the last event"
abbrev pub normal : ℕ → ℕ → List Event → List Cell
normal M t [] = []
normal M t (e ∷ es) = cells_for M (e.at - t) e.id ++ normal M e.at es
