-- One tick: document 01's four steps, in its order, over the queue's own definitions, and at the end what polling servers give up (document 02, #101).
use Rattle.std.specs.Prelude.{Bool, true, not, List, [], ◌∷◌, ℕ, ◌+◌, ◌-◌, eqb, length, Result, Ok, Err}
use Rattle.small.specs.Small.{pick, both, alter}
use Rattle.refusal.specs.Numbers.{unsound, no_room_again}
use Rattle.refusal.specs.Refusal.{none, Check, check, first_of}
use Rattle.refusal.specs.Reason.{refusal_in}
use Rattle.refusal.specs.declared.Refusal.{Refusal}
use Rattle.refusal.specs.declared.Reason.{Reason}
use Rattle.queue.specs.Limits.{max_gap, longest}
use Rattle.queue.specs.Row.{Event, events_of}
use Rattle.queue.specs.Calls.{clock_of, take_of, insert_of}
use Rattle.queue.specs.declared.Queue.{Queue}
use Rattle.queue.specs.Calls.{Changed}
use Rattle.table.specs.Table.{served}
use Rattle.table.specs.declared.Server.{Server}
use Rattle.state.specs.State.{load, with_budget, task_at, period_at, full_at, task_delay}
use Rattle.state.specs.Choice.{first_pending, chosen_of, choice_of}
use Rattle.state.specs.Polling.{lapsed}
use Rattle.state.specs.Sound.{stateb}
use Rattle.state.specs.declared.Load.{Load}
use Rattle.state.specs.declared.Entry.{Entry}
use Rattle.state.specs.declared.State.{State}
use Rattle.state.specs.declared.Choice.{Choice}
use Rattle.state.specs.declared.Choice.TheVariants.{Idle}
use Rattle.scheduler.specs.Arrive.{with_arrival}
use Rattle.scheduler.specs.declared.Answer.{Answer}

-- STEP 3: "The server's budget and the chosen task's work fall by 1."

abbrev pub less_work : Load → Load
less_work l = load (l.pending.0 - 1) l.lost

unfoldable pub charge : Entry → Entry
charge e = record {
  loads = alter less_work e.loads (first_pending e.loads);
  arrivals = e.arrivals;
  budget = served (e.budget.0 - 1);
}

-- STEP 4: "All queues are clocked."

abbrev pub clocked : Queue → Queue
clocked q = (clock_of max_gap longest q).queue

-- the ids of the events that are due, in queue order
abbrev pub due_ids : List Event → List ℕ
due_ids [] = []
due_ids (e ∷ es) = pick (eqb e.at 0) (e.id ∷ due_ids es) (due_ids es)

-- the first event, which is due, taken and put in again
abbrev pub put_again : (ℕ → ℕ) → ℕ → Queue → Changed
put_again delay id q = insert_of max_gap longest (take_of max_gap longest q).queue id (delay id)

-- "In one queue, events are handled in queue order": one after another each is taken and put in again, its delay away
abbrev pub again : (ℕ → ℕ) → List ℕ → Queue → Queue
again delay [] q = q
again delay (id ∷ ids) q = again delay ids (put_again delay id q).queue

-- whether each of them finds room
abbrev pub roomyb : (ℕ → ℕ) → List ℕ → Queue → Bool
roomyb delay [] q = true
roomyb delay (id ∷ ids) q = both (eqb (put_again delay id q).refusal.number 0) (roomyb delay ids (put_again delay id q).queue)

-- what the clock brings due in a queue; the queue with those put in again; and whether each finds room

abbrev pub due_in : Queue → List ℕ
due_in q = due_ids (events_of (clocked q))

unfoldable pub turn_of : (ℕ → ℕ) → Queue → Queue
turn_of delay q = again delay (due_in q) (clocked q)

unfoldable pub room_of : (ℕ → ℕ) → Queue → Bool
room_of delay q = roomyb delay (due_in q) (clocked q)

-- "Due replenishments set the budget to C and are put in again P away."

abbrev pub refilled : (ℕ → ℕ) → List ℕ → List Entry → List Entry
refilled full [] es = es
refilled full (id ∷ ids) es = refilled full ids (alter (with_budget (full id)) es id)

abbrev pub refills_turn : State → Queue
refills_turn s = turn_of (period_at s) s.refills

-- "Then due task arrivals, by server rank, add E and go in again T away."

abbrev pub arrived_loads : Server → List ℕ → List Load → List Load
arrived_loads s [] ls = ls
arrived_loads s (id ∷ ids) ls = arrived_loads s ids (with_arrival (task_at s id).work.0 id ls)

abbrev pub arrivals_turn : Server → Entry → Queue
arrivals_turn s e = turn_of (task_delay s) e.arrivals

unfoldable pub served4 : Server → Entry → Entry
served4 s e = record { loads = arrived_loads s (due_in e.arrivals) e.loads; arrivals = arrivals_turn s e; budget = e.budget }

-- each server with its entry

abbrev pub each_entry : (Server → Entry → Entry) → List Server → List Entry → List Entry
each_entry f [] es = es
each_entry f (s ∷ ss) [] = []
each_entry f (s ∷ ss) (e ∷ es) = f s e ∷ each_entry f ss es

abbrev pub all_roomb : List Server → List Entry → Bool
all_roomb [] es = true
all_roomb (s ∷ ss) [] = true
all_roomb (s ∷ ss) (e ∷ es) = both (room_of (task_delay s) e.arrivals) (all_roomb ss es)

-- the events due in step 4, over the servers' queues
abbrev pub due_events : List Entry → ℕ
due_events [] = 0
due_events (e ∷ es) = length (due_in e.arrivals) + due_events es

-- THE TICK

-- A tick of a sound state, step by step
unfoldable pub state_after : State → State
state_after s =
    -- 1, 2: "The highest server that wants and has budget is chosen"; "In it, the first task with pending work is chosen."
    let chosen = chosen_of s in
    -- 3: "The server's budget and the chosen task's work fall by 1."
    let charged = alter charge s.entries chosen in
    -- 4: "All queues are clocked. Due replenishments set the budget to C and are put in again P away."
    let due = due_in s.refills in
    let full = refilled (full_at s) due charged in
    let refills = refills_turn s in
    -- "Then due task arrivals, by server rank, add E and go in again T away."
    let handled = each_entry served4 s.table.servers full in
    -- "at the end of every tick after all events are handled" a polling server with no pending work gives its budget up (document 02, #101)
    let left = each_entry lapsed s.table.servers handled in
    record { entries = left; table = s.table; refills = refills }

-- "how many events it handled: replenishments and arrivals, lost ones included. That count equals the events due in step 4."
unfoldable pub handled_of : State → ℕ
handled_of s = length (due_in s.refills) + due_events s.entries

-- every event that is due can be put in again
unfoldable pub againb : State → Bool
againb s = both (room_of (period_at s) s.refills) (all_roomb s.table.servers s.entries)

abbrev pub tick_checks : State → List Check
tick_checks s = check unsound (not (stateb s)) ∷ check no_room_again (not (againb s)) ∷ []

-- a tick's answer, and the state after it
pub record Ticked : Type 0 where
  pub state : State
  pub refusal : Refusal
  pub choice : Choice
  pub handled : ℕ

abbrev pub ticked_with : Refusal → Choice → ℕ → State → Ticked
ticked_with r c n s = record { state = s; refusal = r; choice = c; handled = n }

unfoldable pub tick_of : State → Ticked
tick_of s =
    let r = first_of (tick_checks s) in
    pick (eqb r.number 0) (ticked_with none (choice_of s) (handled_of s) (state_after s)) (ticked_with r Idle 0 s)

-- what the outcome of the call, and the state that it leaves, are as that answer

abbrev pub answer_in : Result Answer Reason → Answer
answer_in (Ok a) = a
answer_in (Err r) = record { choice = Idle; handled = 0 }

abbrev pub ticked_by : Result Answer Reason → State → Ticked
ticked_by o s = ticked_with (refusal_in o) (answer_in o).choice (answer_in o).handled s
