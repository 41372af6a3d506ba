-- The words of document 01, and of document 02 where it is named, that the laws of a state are stated in.
use Rattle.std.specs.Prelude.{◌≡◌, Bool, true, false, ◌↔◌, ℕ, ◌≤◌, ◌<◌, max, eqb, length}
use Rattle.small.specs.Small.{both}
use Rattle.queue.specs.Limits.{max_gap, longest}
use Rattle.queue.specs.Row.{events_of}
use Rattle.queue.specs.Sound.{hasb}
use Rattle.queue.specs.Meaning.{SoundQueue}
use Rattle.queue.specs.Calls.{distance_of}
use Rattle.table.specs.Kind.{idling_kind, polling_kind}
use Rattle.table.specs.Limits.{most_work, entries}
use Rattle.table.specs.Table.{release_number, period_of, offset_of}
use Rattle.table.specs.Meaning.{Within, SoundTable, Sized}
use Rattle.table.specs.declared.Release.{Release}
use Rattle.state.specs.State.{most_pending, most_lost, zero_load, zero_entry, server_at, entry_at, task_at, load_at, period_at, full_at}
use Rattle.state.specs.Choice.{pendingb, readyb}
use Rattle.state.specs.Polling.{lapsesb}
use Rattle.state.specs.declared.State.{State}
use Rattle.state.specs.declared.Choice.{Choice}
use Rattle.state.specs.declared.Choice.TheVariants.{Idle, Burning, Running}

-- "eight server entries, each with eight task entries": every state of the code has them; an array of a struct is a bare list here
pub record SizedState (s : State) : Type 0 where
  pub table : Sized s.table
  pub servers : length s.entries ≡ entries
  pub loads : (i : ℕ) → i < entries → length (entry_at s i).loads ≡ entries

-- server i wants the tick and has budget
abbrev pub ready_at : State → ℕ → Bool
ready_at s i = readyb (server_at s i).kind (entry_at s i)

-- whether task j of server i has work pending; whether it has an arrival of its own, and how far that is away

abbrev pub pending_at : State → ℕ → ℕ → Bool
pending_at s i j = pendingb (load_at s i j)

abbrev pub arrival_there : State → ℕ → ℕ → Bool
arrival_there s i j = hasb j (events_of (entry_at s i).arrivals)

abbrev pub arrival_away : State → ℕ → ℕ → ℕ
arrival_away s i j = distance_of j (events_of (entry_at s i).arrivals)

-- server i's budget; whether it has a replenishment, and how far that is away

abbrev pub budget_at : State → ℕ → ℕ
budget_at s i = (entry_at s i).budget.0

abbrev pub refill_there : State → ℕ → Bool
refill_there s i = hasb i (events_of s.refills)

abbrev pub refill_away : State → ℕ → ℕ
refill_away s i = distance_of i (events_of s.refills)

-- server i is "a polling server with no pending work"
abbrev pub lapses_at : State → ℕ → Bool
lapses_at s i = lapsesb (server_at s i).kind (entry_at s i)

-- how task j of server i is released, and the larger of its T and O

abbrev pub release_at : State → ℕ → ℕ → Release
release_at s i j = (task_at (server_at s i) j).release

abbrev pub larger_at : State → ℕ → ℕ → ℕ
larger_at s i j = max (period_of (release_at s i j)) (offset_of (release_at s i j))

-- task j of server i is in the setup, and periodic: "release (0 on arrival, 1 periodic)"
pub record PeriodicTask (s : State) (i j : ℕ) : Type 0 where
  pub server : i < s.table.count
  pub task : j < (server_at s i).count
  pub periodic : release_number (release_at s i j) ≡ 1

-- "A state is sound if ..": the document's words, clause by clause. "Event ids are the places in the table." `state_sound` (proofs/Soundness.antt) says that
-- the test `stateb` holds exactly of the states that are sound in these words.
pub record SoundState (s : State) : Type 0 where
  -- "table values are in range; unused entries are zero": the table's, the servers', and the tasks' of each server
  pub table : SoundTable longest most_work s.table
  pub unused_servers : (i : ℕ) → s.table.count ≤ i → i < entries → entry_at s i ≡ zero_entry
  pub unused_tasks : (i j : ℕ) → i < s.table.count → (server_at s i).count ≤ j → j < entries → load_at s i j ≡ zero_load
  -- "budgets are at most C"
  pub budgets : (i : ℕ) → i < s.table.count → budget_at s i ≤ full_at s i
  -- "pending work is at most 1,000,000, lost counts at most 65,535"
  pub pending : (i j : ℕ) → i < s.table.count → j < (server_at s i).count → (load_at s i j).pending.0 ≤ most_pending
  pub lost : (i j : ℕ) → i < s.table.count → j < (server_at s i).count → (load_at s i j).lost ≤ most_lost
  -- "queues are each sound alone"
  pub refills_sound : SoundQueue max_gap longest s.refills
  pub arrivals_sound : (i : ℕ) → i < entries → SoundQueue max_gap longest (entry_at s i).arrivals
  -- "and hold exactly the replenishments and the periodic tasks' arrivals, each once": the ids in a sound queue differ, so once
  pub refills_held : (i : ℕ) → refill_there s i ≡ true ↔ (i < s.table.count)
  pub arrivals_held : (i j : ℕ) → arrival_there s i j ≡ true ↔ PeriodicTask s i j
  -- "a replenishment is 1 to P away, an arrival 1 to the larger of T and O"
  pub refills_away : (i : ℕ) → i < s.table.count → Within 1 (period_at s i) (refill_away s i)
  pub arrivals_away : (i j : ℕ) → PeriodicTask s i j → Within 1 (larger_at s i j) (arrival_away s i j)
  -- "In a sound state a polling server with no pending work has budget 0." (document 02, #101)
  pub polling : (i : ℕ) → i < s.table.count → (server_at s i).kind ≡ polling_kind → ((j : ℕ) → pending_at s i j ≡ false) → budget_at s i ≡ 0

-- the tick serves task j of server i
abbrev pub runsb : Choice → ℕ → ℕ → Bool
runsb Idle i j = false
runsb (Burning k) i j = false
runsb (Running k m) i j = both (eqb k i) (eqb m j)

-- "The highest server that wants and has budget"
pub record Highest (s : State) (k : ℕ) : Type 0 where
  pub used : k < s.table.count
  pub ready : ready_at s k ≡ true
  pub above : (i : ℕ) → i < k → ready_at s i ≡ false

-- "the first task with pending work"
pub record FirstTask (s : State) (k j : ℕ) : Type 0 where
  pub used : j < (server_at s k).count
  pub pending : pending_at s k j ≡ true
  pub above : (i : ℕ) → i < j → pending_at s k i ≡ false

-- "An idling server without work"
pub record WithoutWork (s : State) (k : ℕ) : Type 0 where
  pub idling : (server_at s k).kind ≡ idling_kind
  pub none : (j : ℕ) → pending_at s k j ≡ false

-- "The highest server that wants and has budget is chosen; none: idle. In it, the first task with pending work is chosen. An idling server without work
-- burns the tick."
abbrev pub Chosen : State → Choice → Type 0
Chosen s Idle = (i : ℕ) → ready_at s i ≡ false
Chosen s (Burning k) = Highest s k × WithoutWork s k
Chosen s (Running k j) = Highest s k × FirstTask s k j
