-- What the exported calls answer and store, where no other crate's definition says it already.
use Rattle.std.specs.Prelude.{not, List, [], ◌∷◌, ℕ, ltb, eqb, length}
use Rattle.small.specs.Small.{pick}
use Rattle.refusal.specs.Numbers.{unsound, no_server, no_task}
use Rattle.refusal.specs.Refusal.{Check, check, first_of}
use Rattle.refusal.specs.declared.Refusal.{Refusal}
use Rattle.queue.specs.Limits.{longest}
use Rattle.queue.specs.Calls.{Changed, Left, Taken}
use Rattle.table.specs.Limits.{most_work}
use Rattle.table.specs.declared.Table.{Table}
use Rattle.setup.specs.Layout.{bytes_of}
use Rattle.setup.specs.Write.{write_refusal}
use Rattle.setup.specs.Read.{Reading as SetupReading}
use Rattle.message.specs.Message.{Reading}
use Rattle.message.specs.declared.Message.{Message}
use Rattle.message.specs.declared.Message.TheVariants.{Run, Arrival}
use Rattle.port.specs.Words.{queue_words, load_words, table_words, state_words}
use Rattle.state.specs.State.{server_at, entry_at, load_at}
use Rattle.state.specs.Sound.{stateb}
use Rattle.state.specs.Choice.{choice_number}
use Rattle.state.specs.Fresh.{fresh_of}
use Rattle.state.specs.declared.State.{State}
use Rattle.state.specs.declared.Choice.{Choice}
use Rattle.state.specs.declared.Choice.TheVariants.{Idle, Burning, Running}
use Rattle.scheduler.specs.Arrive.{Arrived, arrival_number}
use Rattle.scheduler.specs.Tick.{Ticked}

-- what lent memory holds behind a call: what the call gives, or, where it is refused, what it held
abbrev pub held_after : Refusal → List ℕ → List ℕ → List ℕ
held_after r new old = pick (eqb r.number 0) new old

-- the same of a queue
abbrev pub held_queue : Changed → List ℕ → List ℕ
held_queue c old = held_after c.refusal (queue_words c.queue) old

-- of a distance; of the queue that an event is taken out of, and of its id
abbrev pub held_distance : Left → List ℕ → List ℕ
held_distance l old = held_after l.refusal (l.distance.0 ∷ []) old

abbrev pub held_rest : Taken → List ℕ → List ℕ
held_rest t old = held_after t.refusal (queue_words t.queue) old

abbrev pub held_id : Taken → List ℕ → List ℕ
held_id t old = held_after t.refusal (t.id ∷ []) old

-- a tick's answer: 0 idle, 1 burning, 2 running; the server and the task, 0 where there is none; the events handled
abbrev pub chosen_server : Choice → ℕ
chosen_server Idle = 0
chosen_server (Burning i) = i
chosen_server (Running i j) = i

abbrev pub chosen_task : Choice → ℕ
chosen_task Idle = 0
chosen_task (Burning i) = 0
chosen_task (Running i j) = j

abbrev pub answer_words : Choice → ℕ → List ℕ
answer_words c n = choice_number c ∷ chosen_server c ∷ chosen_task c ∷ n ∷ []

-- what the memory of a state and of an answer holds behind a tick
abbrev pub held_state : Ticked → List ℕ → List ℕ
held_state t old = held_after t.refusal (state_words t.state) old

abbrev pub held_answer : Ticked → List ℕ → List ℕ
held_answer t old = held_after t.refusal (answer_words t.choice t.handled) old

-- behind an arrival: the state, and whether the work is lost
abbrev pub held_arrived : Arrived → List ℕ → List ℕ
held_arrived a old = held_after a.refusal (state_words a.state) old

abbrev pub held_lost : Arrived → List ℕ → List ℕ
held_lost a old = held_after a.refusal (arrival_number a.arrival ∷ []) old

-- reading a budget, and a task's pending work and lost count: "31 comes first everywhere", then no such server, no such task
abbrev pub budget_checks : State → ℕ → List Check
budget_checks s i = check unsound (not (stateb s)) ∷ check no_server (not (ltb i s.table.count)) ∷ []

abbrev pub budget_refusal : State → ℕ → Refusal
budget_refusal s i = first_of (budget_checks s i)

abbrev pub held_budget : State → ℕ → List ℕ → List ℕ
held_budget s i old = held_after (budget_refusal s i) ((entry_at s i).budget.0 ∷ []) old

abbrev pub load_checks : State → ℕ → ℕ → List Check
load_checks s i j =
    check unsound (not (stateb s))
    ∷ check no_server (not (ltb i s.table.count))
    ∷ check no_task (not (ltb j (server_at s i).count))
    ∷ []

abbrev pub load_refusal : State → ℕ → ℕ → Refusal
load_refusal s i j = first_of (load_checks s i j)

abbrev pub held_load : State → ℕ → ℕ → List ℕ → List ℕ
held_load s i j old = held_after (load_refusal s i j) (load_words (load_at s i j)) old

-- what a setup file that was read leaves: its table, or the state in which it begins
abbrev pub held_table : SetupReading → List ℕ → List ℕ
held_table r old = held_after r.refusal (table_words r.table) old

abbrev pub held_fresh : SetupReading → List ℕ → List ℕ
held_fresh r old = held_after r.refusal (state_words (fresh_of r.table).state) old

-- how many bytes a setup file has that is written into a buffer of n bytes
abbrev pub held_length : Table → ℕ → List ℕ → List ℕ
held_length t n old = held_after (write_refusal longest most_work t n) (length (bytes_of t) ∷ []) old

-- a message: its kind, and the number of ticks and 0, or the server and the task
abbrev pub message_words : Message → List ℕ
message_words (Run n) = 1 ∷ n ∷ 0 ∷ []
message_words (Arrival i j) = 2 ∷ i ∷ j ∷ []

abbrev pub held_message : Reading → List ℕ → List ℕ
held_message m old = held_after m.refusal (message_words m.message) old
