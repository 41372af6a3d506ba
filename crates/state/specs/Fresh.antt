-- "Fresh state: each budget is C; each replenishment is P away. A periodic task with O = 0 has work E and its next arrival T away; with O > 0, work 0 and
-- its arrival O away. Server and task events go in by table order."
use Rattle.std.specs.Prelude.{not, Result, Ok, Err, List, [], ◌∷◌, ℕ, suc, eqb, replicate}
use Rattle.small.specs.Small.{pick}
use Rattle.refusal.specs.Numbers.{unsound}
use Rattle.refusal.specs.Refusal.{none, Check, check, first_of}
use Rattle.refusal.specs.Reason.{refusal_by}
use Rattle.refusal.specs.declared.Refusal.{Refusal}
use Rattle.refusal.specs.declared.Reason.{Reason}
use Rattle.queue.specs.Limits.{max_gap, longest}
use Rattle.queue.specs.Row.{queue_of}
use Rattle.queue.specs.Calls.{insert_of}
use Rattle.queue.specs.declared.Queue.{Queue}
use Rattle.table.specs.Limits.{most_work, entries}
use Rattle.table.specs.Sound.{tableb}
use Rattle.table.specs.declared.Release.{Release}
use Rattle.table.specs.declared.Release.TheVariants.{OnArrival, Periodic}
use Rattle.table.specs.declared.Task.{Task}
use Rattle.table.specs.declared.Server.{Server}
use Rattle.table.specs.declared.Table.{Table}
use Rattle.state.specs.State.{load, zero_entry}
use Rattle.state.specs.Polling.{lapsed}
use Rattle.state.specs.declared.Load.{Load}
use Rattle.state.specs.declared.Entry.{Entry}
use Rattle.state.specs.declared.State.{State}

-- how far a task's first arrival is away; 0 where it has none
abbrev pub first_away : Release → ℕ
first_away OnArrival = 0
first_away (Periodic T O) = pick (eqb O.0 0) T.0 O.0

abbrev pub task_away : Task → ℕ
task_away t = first_away t.release

-- "each replenishment is P away"
abbrev pub server_away : Server → ℕ
server_away s = s.period.0

-- the work that a task begins with
abbrev pub first_work : Release → ℕ → ℕ
first_work OnArrival E = 0
first_work (Periodic T O) E = pick (eqb O.0 0) E 0

abbrev pub fresh_load : Task → Load
fresh_load t = load (first_work t.release t.work.0) 0

abbrev pub fresh_loads : List Task → List Load
fresh_loads [] = []
fresh_loads (t ∷ ts) = fresh_load t ∷ fresh_loads ts

-- events put in by table order, from place i on: each with its place as its id, where it is to have one
abbrev pub put_in : {A : Type 0} → (A → ℕ) → List A → ℕ → Queue → Queue
put_in f [] i q = q
put_in f (x ∷ xs) i q = put_in f xs (suc i) (pick (eqb (f x) 0) q (insert_of max_gap longest q i (f x)).queue)

unfoldable pub fresh_queue : {A : Type 0} → (A → ℕ) → List A → Queue
fresh_queue f xs = put_in f xs 0 (queue_of [])

-- "each budget is C"
abbrev pub filled_entry : Server → Entry
filled_entry s = record { loads = fresh_loads s.tasks; arrivals = fresh_queue task_away s.tasks; budget = s.budget }

-- but "at setup .. a polling server with no pending work has its budget set to 0" (document 02, #101)
unfoldable pub fresh_entry : Server → Entry
fresh_entry s = lapsed s (filled_entry s)

abbrev pub fresh_entries : List Server → List Entry
fresh_entries [] = []
fresh_entries (s ∷ ss) = fresh_entry s ∷ fresh_entries ss

unfoldable pub fresh_state : Table → State
fresh_state t = record { entries = fresh_entries t.servers; table = t; refills = fresh_queue server_away t.servers }

-- what the call answers: a state, and why it is refused
pub record Made : Type 0 where
  pub state : State
  pub refusal : Refusal

-- a refused call hands back the table as it was, and zero elsewhere
abbrev pub empty_state : Table → State
empty_state t = record { entries = replicate entries zero_entry; table = t; refills = queue_of [] }

abbrev pub fresh_checks : Table → List Check
fresh_checks t = check unsound (not (tableb longest most_work t)) ∷ []

abbrev pub made_with : Refusal → State → Made
made_with r s = record { state = s; refusal = r }

unfoldable pub fresh_of : Table → Made
fresh_of t =
    let r = first_of (fresh_checks t) in
    pick (eqb r.number 0) (made_with none (fresh_state t)) (made_with r (empty_state t))

-- what the outcome of a call on a table is as an answer
abbrev pub made_by : Table → Result State Reason → Made
made_by t (Ok s) = made_with none s
made_by t (Err r) = made_with (refusal_by r) (empty_state t)
