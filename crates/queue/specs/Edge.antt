-- Document 01, "Points on the edge": those of the queue that are marked P, as one table of statements. proofs/Points.antt computes it.
use Rattle.std.specs.Prelude.{◌≡◌, List, [], ◌∷◌, ◌++◌, ℕ, zero, suc, replicate}
use Rattle.refusal.specs.Numbers.{no_room}
use Rattle.queue.specs.Limits.{max_gap, longest, filler}
use Rattle.queue.specs.Row.{cell, queue_of}
use Rattle.queue.specs.Calls.{Changed, accepted_with, insert_of, remove_of, clock_of, push_back_of}
use Rattle.queue.specs.declared.Cell.{Cell}
use Rattle.queue.specs.declared.Queue.{Queue}

-- insert at the queue's own limits, and the answer that is accepted with these cells

abbrev pub insert_at : Queue → ℕ → ℕ → Changed
insert_at q id delay = insert_of max_gap longest q id delay

abbrev pub accepted : List Cell → Changed
accepted cs = accepted_with (queue_of cs)

-- "insert 1 at 65,536", "then 2 and 3 at 70,000"
abbrev pub one_put : Queue
one_put = (insert_at (queue_of []) 1 65536).queue

abbrev pub three_put : Queue
three_put = (insert_at (insert_at one_put 2 70000).queue 3 70000).queue

-- n events at 0, with the ids below n
abbrev pub zeros : ℕ → Queue
zeros zero = queue_of []
zeros (suc n) = (insert_at (zeros n) n 0).queue

pub record QueueEdge : Type 0 where
  -- "65,535 into an empty queue: one cell"
  pub at_65535 : insert_at (queue_of []) 1 65535 ≡ accepted (cell 1 65535 ∷ [])
  -- "65,536: filler 1, event 65,535"
  pub at_65536 : insert_at (queue_of []) 1 65536 ≡ accepted (cell filler 1 ∷ cell 1 65535 ∷ [])
  -- "131,071: fillers 1 and 65,535, event 65,535"
  pub at_131071 : insert_at (queue_of []) 1 131071 ≡ accepted (cell filler 1 ∷ cell filler 65535 ∷ cell 1 65535 ∷ [])
  -- "1,000,000: 16 cells, the first 16,975"
  pub at_1000000 : insert_at (queue_of []) 1 1000000 ≡ accepted (cell filler 16975 ∷ (replicate 14 (cell filler 65535) ++ (cell 1 65535 ∷ [])))
  pub cells_1000000 : (insert_at (queue_of []) 1 1000000).queue.len ≡ 16
  -- "insert 1 at 65,536, then 2 and 3 at 70,000: filler 1; 1 at 65,535; 2 at 4,464; 3 at 0"
  pub three_put_lem : three_put ≡ queue_of (cell filler 1 ∷ cell 1 65535 ∷ cell 2 4464 ∷ cell 3 0 ∷ [])
  -- "remove 1: filler 4,465; 2 at 65,535; 3 at 0"
  pub one_removed : remove_of max_gap longest three_put 1 ≡ accepted (cell filler 4465 ∷ cell 2 65535 ∷ cell 3 0 ∷ [])
  -- "clock on filler 1, event 65,535: the event alone"
  pub clocked : clock_of max_gap longest (queue_of (cell filler 1 ∷ cell 1 65535 ∷ [])) ≡ accepted (cell 1 65535 ∷ [])
  -- "push back gives the filler again"
  pub pushed : push_back_of max_gap longest (queue_of (cell 1 65535 ∷ [])) ≡ accepted (cell filler 1 ∷ cell 1 65535 ∷ [])
  -- "16 events at 0, then one at 1,000,000: 32 cells"
  pub sixteen : (zeros 16).len ≡ 16
  pub full : (insert_at (zeros 16) 99 1000000).refusal.number ≡ 0
  pub full_cells : (insert_at (zeros 16) 99 1000000).queue.len ≡ 32
  -- "With 17 at 0: 25"
  pub seventeen : (zeros 17).len ≡ 17
  pub no_room_lem : (insert_at (zeros 17) 99 1000000).refusal.number ≡ no_room
