-- Document 01, "Points on the edge": all that are marked P, as one table of statements, the queue's among them. proofs/Points.antt computes it.
use Rattle.std.specs.Prelude.{◌≡◌, List, [], ◌∷◌, ℕ, length}
use Rattle.small.specs.Small.{padded, alter}
use Rattle.queue.specs.Edge.{QueueEdge}
use Rattle.table.specs.Kind.{idling_kind, deferrable_kind}
use Rattle.table.specs.Limits.{entries}
use Rattle.table.specs.Table.{ticks, served, zero_task, zero_server}
use Rattle.table.specs.declared.Release.TheVariants.{OnArrival, Periodic}
use Rattle.table.specs.declared.Task.{Task}
use Rattle.table.specs.declared.Server.{Server}
use Rattle.table.specs.declared.Table.{Table}
use Rattle.state.specs.State.{load, zero_load, load_at}
use Rattle.state.specs.Fresh.{fresh_of}
use Rattle.state.specs.declared.Load.{Load}
use Rattle.state.specs.declared.State.{State}
use Rattle.state.specs.declared.Choice.TheVariants.{Idle, Burning, Running}
use Rattle.scheduler.specs.Arrive.{with_loads, with_entries, arrive_of}
use Rattle.scheduler.specs.Run.{answer, answers_of}
use Rattle.scheduler.specs.declared.Arrival.TheVariants.{Accepted, Lost}

-- a task's release, and the setup of a table: what is not named is zero

abbrev pub on_arrival : ℕ → Task
on_arrival E = record { work = served E; release = OnArrival }

abbrev pub periodic : ℕ → ℕ → ℕ → Task
periodic E T O = record { work = served E; release = Periodic (ticks T) (ticks O) }

abbrev pub server : ℕ → ℕ → ℕ → List Task → Server
server kind P C ts =
    record { tasks = padded zero_task entries ts; count = length ts; kind = kind; period = ticks P; budget = served C }

abbrev pub setup : List Server → Table
setup ss = record { servers = padded zero_server entries ss; count = length ss }

-- "server 0 deferrable, P 4, C 2, one task on arrival, E 3; server 1 idling, P 5, C 2, one periodic task, E 1, T 5, O 0"
abbrev pub example : Table
example = setup (server deferrable_kind 4 2 (on_arrival 3 ∷ []) ∷ server idling_kind 5 2 (periodic 1 5 0 ∷ []) ∷ [])

-- "arrival (0, 0)"
abbrev pub example_begun : State
example_begun = (arrive_of (fresh_of example).state 0 0).state

-- "one idling server, no tasks, P 2, C 2"
abbrev pub idling : State
idling = (fresh_of (setup (server idling_kind 2 2 [] ∷ []))).state

-- one task on arrival, with its work E and 999,999 of it pending
abbrev pub nearly_full : ℕ → State
nearly_full E =
    let s = (fresh_of (setup (server deferrable_kind 4 2 (on_arrival E ∷ []) ∷ []))).state in
    with_entries (alter (with_loads (padded zero_load entries (load 999999 0 ∷ []))) s.entries 0) s

-- the load of server 0's task 0
abbrev pub first_load : State → Load
first_load s = load_at s 0 0

pub record SchedulerEdge : Type 0 where
  -- the queue's points
  pub queue : QueueEdge
  -- "one idling server, no tasks, P 2, C 2: tick 2 is burned, never idle"
  pub burned : answers_of 4 idling ≡ answer (Burning 0) 0 ∷ answer (Burning 0) 1 ∷ answer (Burning 0) 0 ∷ answer (Burning 0) 1 ∷ []
  -- "work 999,999 and E 1: accepted"
  pub full_accepted : (arrive_of (nearly_full 1) 0 0).refusal.number ≡ 0
  pub full_says : (arrive_of (nearly_full 1) 0 0).arrival ≡ Accepted
  pub full_load : first_load (arrive_of (nearly_full 1) 0 0).state ≡ load 1000000 0
  -- "E 2: lost"
  pub over_accepted : (arrive_of (nearly_full 2) 0 0).refusal.number ≡ 0
  pub over_says : (arrive_of (nearly_full 2) 0 0).arrival ≡ Lost
  pub over_load : first_load (arrive_of (nearly_full 2) 0 0).state ≡ load 999999 1
  -- "the eight ticks above", of a setup and an arrival that are accepted, each with the events that were due
  pub setup_accepted : (fresh_of example).refusal.number ≡ 0
  pub arrival_accepted : (arrive_of (fresh_of example).state 0 0).refusal.number ≡ 0
  pub arrival_says_lem : (arrive_of (fresh_of example).state 0 0).arrival ≡ Accepted
  pub eight : answers_of 8 example_begun
      ≡ answer (Running 0 0) 0
      ∷ answer (Running 0 0) 0
      ∷ answer (Running 1 0) 0
      ∷ answer (Burning 1) 1
      ∷ answer (Running 0 0) 2
      ∷ answer (Running 1 0) 0
      ∷ answer (Burning 1) 0
      ∷ answer Idle 1
      ∷ []
