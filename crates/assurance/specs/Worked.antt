-- Demand 3's numbers, worked out: document 01's example, and a history that reaches both bounds. proofs/Points.antt computes them.
use Rattle.std.specs.Prelude.{◌≡◌, true, List, [], ◌∷◌, length, replicate}
use Rattle.queue.specs.Limits.{longest}
use Rattle.table.specs.Kind.{idling_kind, deferrable_kind, polling_kind}
use Rattle.table.specs.Limits.{most_work}
use Rattle.table.specs.Sound.{tableb}
use Rattle.table.specs.declared.Table.{Table}
use Rattle.state.specs.Fresh.{fresh_of}
use Rattle.scheduler.specs.Edge.{on_arrival, periodic, server, setup, example}
use Rattle.scheduler.specs.Run.{state_after_ticks}
use Rattle.assurance.specs.History.{Call, tick, run, arrival, Seen}
use Rattle.small.specs.Small.{tally}
use Rattle.assurance.specs.Demand3.{most_held, sure, period_ticks, period_ends, runs, held_off, declines, workless}

-- server 0 deferrable, P 3, C 1, one task on arrival, E 3; server 1 idling, P 5, C 5, no tasks
abbrev pub tight : Table
tight = setup (server deferrable_kind 3 1 (on_arrival 3 ∷ []) ∷ server idling_kind 5 5 [] ∷ [])

-- an arrival (0, 0) between a run of five ticks and five single ones: server 0 runs on ticks 5, 6 and 9, at the end of one of its periods and in the first
-- ticks of the next two
abbrev pub tight_calls : List Call
tight_calls = run 5 ∷ arrival 0 0 ∷ replicate 5 tick

-- the same with server 1 polling, P 5, C 5, one task on arrival, E 20, whose arrival comes first: its budget is 0 up to its refill on tick 4
abbrev pub tight_polled : Table
tight_polled = setup (server deferrable_kind 3 1 (on_arrival 3 ∷ []) ∷ server polling_kind 5 5 (on_arrival 20 ∷ []) ∷ [])

abbrev pub polled_calls : List Call
polled_calls = arrival 1 0 ∷ tight_calls

-- one polling server, P 4, C 2, one task on arrival, E 1. Its work ends on tick 4, the first of its period 1, and more arrives before tick 5
abbrev pub late : Table
late = setup (server polling_kind 4 2 (on_arrival 1 ∷ []) ∷ [])

abbrev pub late_calls : List Call
late_calls = run 3 ∷ arrival 0 0 ∷ run 2 ∷ arrival 0 0 ∷ run 3 ∷ []

-- one polling server, P 2, C 2, one periodic task, E 2, T 8, O 0: all of its work is done with the last tick of its period 0
abbrev pub ending : Table
ending = setup (server polling_kind 2 2 (periodic 2 8 0 ∷ []) ∷ [])

pub record Worked : Type 0 where
  -- "Above, W for server 1 is 4, so it is sure of 1 tick in a period."
  pub worked_W : most_held example 1 ≡ 4
  pub worked_sure : sure example 1 ≡ 1
  -- W is reached, and no more than the least amount is got: in its period 1, a whole one, server 1 is held off W ticks and runs on the 2 that are left
  pub tight_sound : tableb longest most_work tight ≡ true
  pub tight_whole : length (period_ticks tight tight_calls 1 1) ≡ 5
  pub tight_wants : tally (declines 1) (period_ticks tight tight_calls 1 1) ≡ 0
  pub tight_W : most_held tight 1 ≡ 3
  pub tight_held : tally (held_off 1) (period_ticks tight tight_calls 1 1) ≡ most_held tight 1
  pub tight_sure : sure tight 1 ≡ 2
  pub tight_runs : tally (runs 1) (period_ticks tight tight_calls 1 1) ≡ sure tight 1
  -- a polling server reaches both too: work was pending at the end of tick 4, and of each tick of its period 1 but the last
  pub polled_sound : tableb longest most_work tight_polled ≡ true
  pub polled_whole : length (period_ticks tight_polled polled_calls 1 1) ≡ 5
  pub polled_works : tally (workless 1) (period_ends tight_polled polled_calls 1 1) ≡ 0
  pub polled_held : tally (held_off 1) (period_ticks tight_polled polled_calls 1 1) ≡ most_held tight_polled 1
  pub polled_sure : sure tight_polled 1 ≡ 2
  pub polled_runs : tally (runs 1) (period_ticks tight_polled polled_calls 1 1) ≡ sure tight_polled 1
  -- no more is asked: in the fresh state and at the end of tick 0 work is pending, and at the end of tick 1, the last of period 0, none is
  pub ending_sound : tableb longest most_work ending ≡ true
  pub ending_whole : length (period_ticks ending (run 2 ∷ []) 0 0) ≡ 2
  pub ending_works : tally (workless 0) (period_ends ending (run 2 ∷ []) 0 0) ≡ 0
  pub ending_done : workless 0 (state_after_ticks 2 (fresh_of ending).state) ≡ true
  pub ending_runs : tally (runs 0) (period_ticks ending (run 2 ∷ []) 0 0) ≡ sure ending 0
  -- why the ends of ticks count: it wants each tick on which it has budget, has work before each tick of its period 1, and runs 1 of the 2 ticks that it
  -- would be sure of. At the end of tick 4, the first of the period, no work was pending
  pub late_sound : tableb longest most_work late ≡ true
  pub late_whole : length (period_ticks late late_calls 0 1) ≡ 4
  pub late_wants : tally (declines 0) (period_ticks late late_calls 0 1) ≡ 0
  pub late_before : tally (λ (x : Seen). workless 0 x.state) (period_ticks late late_calls 0 1) ≡ 0
  pub late_ends : tally (workless 0) (period_ends late late_calls 0 1) ≡ 1
  pub late_sure : sure late 0 ≡ 2
  pub late_runs : tally (runs 0) (period_ticks late late_calls 0 1) ≡ 1
