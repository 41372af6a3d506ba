-- "A queue alone is sound if it is in normal form, its events' ids differ, no distance is above 1,000,000, and cells past the last are zero": the document's
-- words, cell by cell. M is the largest gap and D the longest distance. `queue_sound` (proofs/Soundness.antt) says that the test `soundb` holds exactly of the
-- queues that are sound in these words.
use Rattle.std.specs.Prelude.{Bool, ◌≡◌, ◌≢◌, ℕ, ◌-◌, ◌*◌, ◌≤◌, ◌<◌, length, get_or}
use mathlib.Core.List.{List, [], ◌∷◌, flatten, ◌++◌}
use Rattle.small.specs.Small.{All}
use Rattle.queue.specs.Calls.{distance_of}
use Rattle.queue.specs.Sound.{hasb}
use Rattle.queue.specs.Limits.{cell_count}
use Rattle.queue.specs.Row.{event, cell, cells_of, events_from, events_of, Event, normal}
use Rattle.queue.specs.declared.Cell.{Cell}
use Rattle.queue.specs.declared.Queue.{Queue}

-- the cells of one event
pub record OneEvent (M : ℕ) (cs : List Cell) : Type 0 where
  -- "let g be the distance between an event and the event before it (or now)": counted from there, the cells hold this event and no other
  pub id : ℕ
  pub g : ℕ
  pub one : events_from 0 cs ≡ event id g ∷ []
  -- "as few cells as can hold g", and so one for g up to M: n cells hold up to n * M
  pub fewest : (n : ℕ) → 1 ≤ n → g ≤ n * M → length cs ≤ n
  -- "the event last"
  pub last : (get_or cs (length cs - 1) (cell 0 0)).id ≡ id
  -- "The first cell has what remains; each other, the event included, has gap 65,535": what remains is at most that too
  pub first : (get_or cs 0 (cell 0 0)).gap ≤ M
  pub others : (i : ℕ) → 1 ≤ i → i < length cs → (get_or cs i (cell 0 0)).gap ≡ M

-- "No filler follows the last event": the row is the cells of one event after the other, and nothing besides
pub record NormalForm (M : ℕ) (cs : List Cell) : Type 0 where
  pub groups : List (List Cell)
  pub whole : flatten groups ≡ cs
  pub each : (i : ℕ) → i < length groups → OneEvent M (get_or groups i [])

pub record SoundQueue (M D : ℕ) (q : Queue) : Type 0 where
  -- "A queue is a row of at most 32 cells": every queue of the code has 32 places
  pub places : length q.cells ≡ cell_count
  pub few : q.len ≤ cell_count
  pub normal : NormalForm M (cells_of q)
  -- "its events' ids differ"
  pub apart : (i j : ℕ) → i < j → j < length (events_of q) → (get_or (events_of q) i (event 0 0)).id ≢ (get_or (events_of q) j (event 0 0)).id
  -- "no distance is above 1,000,000"
  pub near : (i : ℕ) → i < length (events_of q) → (get_or (events_of q) i (event 0 0)).at ≤ D
  -- "cells past the last are zero"
  pub past : (i : ℕ) → q.len ≤ i → i < cell_count → get_or q.cells i (cell 0 0) ≡ cell 0 0

-- WHAT THE LAWS OF THE CALLS SPEAK OF

-- an event with the id j is there, and how far away it is
abbrev pub there : ℕ → Queue → Bool
there j q = hasb j (events_of q)

abbrev pub away : ℕ → Queue → ℕ
away j q = distance_of j (events_of q)

-- every event of a list is at most d away; every one is further
abbrev pub AllWithin : ℕ → List Event → Type 0
AllWithin d es = All (λ e. e.at ≤ d) es

abbrev pub AllBeyond : ℕ → List Event → Type 0
AllBeyond d es = All (λ e. d < e.at) es

-- an event is put in "behind all that are due at the same time", and before all that are due later
pub record PutIn (x : Event) (es next : List Event) : Type 0 where
  pub before : List Event
  pub behind : List Event
  pub old : es ≡ before ++ behind
  pub new : next ≡ before ++ (x ∷ behind)
  pub within : AllWithin x.at before
  pub beyond : AllBeyond x.at behind

-- distances that do not fall, counted from t
abbrev pub Sorted : ℕ → List Event → Type 0
Sorted t [] = Unit
Sorted t (e ∷ es) = (t ≤ e.at) × Sorted e.at es

-- every gap of a row is at most M
abbrev pub Fits : ℕ → List Cell → Type 0
Fits M cs = All (λ c. c.gap ≤ M) cs

-- how many cells the normal form of events needs
abbrev pub cells_needed : ℕ → List Event → ℕ
cells_needed M es = length (normal M 0 es)
