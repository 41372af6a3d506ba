-- What the private functions give. No promise is stated by these: they stand between the code's loops and the definitions.
use Rattle.std.specs.Prelude.{◌≡◌, Bool, true, List, ℕ, ◌≤◌, ◌<◌, leb, length, Result, Ok, Err, ⊤}
use Rattle.small.specs.Small.{pick, both, alter}
use Rattle.refusal.specs.declared.Reason.{Reason}
use Rattle.refusal.specs.declared.Reason.TheVariants.{Unsound}
use Rattle.queue.specs.Limits.{max_gap, longest}
use Rattle.queue.specs.Holds.{holdsb}
use Rattle.queue.specs.Row.{events_of}
use Rattle.queue.specs.Sound.{soundb}
use Rattle.queue.specs.Steps.{first_cell, due_step, again_step}
use Rattle.queue.specs.declared.Queue.{Queue}
use Rattle.table.specs.Limits.{most_work, entries}
use Rattle.table.specs.Sound.{tasksb, tableb}
use Rattle.table.specs.declared.Server.{Server}
use Rattle.state.specs.Sound.{server_reaches, entryb, stateb}
use Rattle.state.specs.Meaning.{SizedState}
use Rattle.state.specs.Choice.{chosen_of}
use Rattle.state.specs.State.{task_at, task_delay, full_at}
use Rattle.state.specs.Polling.{lapsed}
use Rattle.state.specs.Moves.{AllOf, PendingBelow}
use Rattle.state.specs.declared.State.{State}
use Rattle.state.specs.declared.Entry.{Entry}
use Rattle.scheduler.specs.Arrive.{with_arrival}
use Rattle.scheduler.specs.Tick.{due_ids, due_in, again, arrived_loads, served4, charge, refilled, refills_turn, each_entry}

-- whether a state is refused
abbrev pub checked_of : State → Result ⊤ Reason
checked_of s = pick (stateb s) (Ok tt) (Err Unsound)

-- a state that ticks: sound, with its eight servers and entries
pub record Ticking (s : State) : Type 0 where
  pub sound : stateb s ≡ true
  pub sized : SizedState s

-- one whose replenishments can be handled
pub record Refillable (s : State) : Type 0 where
  pub servers : length s.table.servers ≡ entries
  pub entries : length s.entries ≡ entries
  pub table : tableb longest most_work s.table ≡ true
  pub refills : holdsb max_gap longest (server_reaches s.table.servers) s.refills ≡ true

-- the first event of a queue, which is due, put in again its delay away
abbrev pub requeued : (ℕ → ℕ) → Queue → Queue
requeued delay q = again_step max_gap q (delay (first_cell q).id)

-- a queue whose events can be put in again: sound, of at most 8 events, each of a place whose delay is 1 to the longest distance
pub record Turning (delay : ℕ → ℕ) (q : Queue) : Type 0 where
  pub sound : soundb max_gap longest q ≡ true
  pub few : length (events_of q) ≤ entries
  pub each : AllOf (λ (id : ℕ). (id < entries) × ((1 ≤ delay id) × (delay id ≤ longest))) (events_of q)

-- what holds of every server of a sound table, in use or zero: its period is in range, and its tasks, at most 8; the others are zero
unfoldable pub tabledb : Server → Bool
tabledb s = both (leb s.count entries) (both (leb s.period.0 longest) (tasksb longest most_work s))

-- a server and its entry, whose arrivals can be handled
pub record Handleable (s : Server) (e : Entry) : Type 0 where
  pub server : tabledb s ≡ true
  pub entry : entryb s e ≡ true

-- a server's entry whose queue has been clocked, and may have events due
pub record Clocked (s : Server) (e : Entry) : Type 0 where
  pub server : tabledb s ≡ true
  pub turning : Turning (task_delay s) e.arrivals
  pub loads : PendingBelow e.loads

-- and has one
pub record Arriving (s : Server) (e : Entry) : Type 0 where
  pub clocked : Clocked s e
  pub due : due_step e.arrivals ≡ true

unfoldable pub one_arrival : Server → Entry → Entry
one_arrival s e = record {
  loads = with_arrival (task_at s (first_cell e.arrivals).id).work.0 (first_cell e.arrivals).id e.loads;
  arrivals = requeued (task_delay s) e.arrivals;
  budget = e.budget;
}

-- a server's entry after a tick, and how many of its arrivals were due
pub record EntryTurn : Type 0 where
  pub entry : Entry
  pub handled : ℕ

-- what a call that answers the count leaves of the entry, as that
abbrev pub turn_by : ℕ → Entry → EntryTurn
turn_by n e = record { entry = e; handled = n }

-- the due events of a queue that has been clocked, handled
unfoldable pub due_turn : Server → Entry → EntryTurn
due_turn s e = record {
  entry = record {
    loads = arrived_loads s (due_ids (events_of e.arrivals)) e.loads;
    arrivals = again (task_delay s) (due_ids (events_of e.arrivals)) e.arrivals;
    budget = e.budget;
  };
  handled = length (due_ids (events_of e.arrivals));
}

abbrev pub with_queue : Queue → Entry → Entry
with_queue q e = record { loads = e.loads; arrivals = q; budget = e.budget }

-- step 4 for one server's queue: its entry after it, and how many of its events were due
unfoldable pub served_turn : Server → Entry → EntryTurn
served_turn s e = record { entry = served4 s e; handled = length (due_in e.arrivals) }

-- the same, and behind it what a polling server gives up
unfoldable pub ended_turn : Server → Entry → EntryTurn
ended_turn s e = record { entry = lapsed s (served4 s e); handled = length (due_in e.arrivals) }

-- THE TICK, where it is taken apart

-- the entries after step 3
abbrev pub charged_entries : State → List Entry
charged_entries s = alter charge s.entries (chosen_of s)

-- a state after its replenishments
abbrev pub refills_after : State → State
refills_after s = record { entries = refilled (full_at s) (due_in s.refills) s.entries; table = s.table; refills = refills_turn s }

-- the entries after step 4
abbrev pub handled_entries : State → List Entry
handled_entries s = each_entry served4 s.table.servers (refilled (full_at s) (due_in s.refills) (charged_entries s))
