-- What an arrival does to a task, and the arrival call.
use Rattle.std.specs.Prelude.{Bool, true, false, not, List, [], ◌∷◌, ℕ, ◌+◌, leb, ltb, eqb, Result, Ok, Err}
use Rattle.small.specs.Small.{pick, alter}
use Rattle.refusal.specs.Numbers.{unsound, no_server, no_task, task_periodic}
use Rattle.refusal.specs.Refusal.{none, Check, check, first_of}
use Rattle.refusal.specs.Reason.{refusal_in}
use Rattle.refusal.specs.declared.Refusal.{Refusal}
use Rattle.refusal.specs.declared.Reason.{Reason}
use Rattle.table.specs.Table.{release_number}
use Rattle.state.specs.State.{most_pending, most_lost, load, server_at, task_at, load_at}
use Rattle.state.specs.Sound.{stateb}
use Rattle.state.specs.declared.Load.{Load}
use Rattle.state.specs.declared.Entry.{Entry}
use Rattle.state.specs.declared.State.{State}
use Rattle.scheduler.specs.declared.Arrival.{Arrival}
use Rattle.scheduler.specs.declared.Arrival.TheVariants.{Accepted, Lost}

-- "An arrival whose E would bring pending work above 1,000,000 is lost"
abbrev pub fitsb : ℕ → Load → Bool
fitsb E l = leb (l.pending.0 + E) most_pending

-- "and adds 1 to the task's lost count, which stops at 65,535"
abbrev pub lost_after : ℕ → ℕ
lost_after n = pick (ltb n most_lost) (n + 1) n

unfoldable pub load_after : ℕ → Load → Load
load_after E l = pick (fitsb E l) (load (l.pending.0 + E) l.lost) (load l.pending.0 (lost_after l.lost))

-- the loads with an arrival of E at the place j
abbrev pub with_arrival : ℕ → ℕ → List Load → List Load
with_arrival E j ls = alter (load_after E) ls j

-- THE CALL: "18, 19, 20: no such server; no such task; task is periodic"

abbrev pub arrive_checks : State → ℕ → ℕ → List Check
arrive_checks s i j =
    check unsound (not (stateb s))
    ∷ check no_server (not (ltb i s.table.count))
    ∷ check no_task (not (ltb j (server_at s i).count))
    ∷ check task_periodic (eqb (release_number (task_at (server_at s i) j).release) 1)
    ∷ []

-- "It says accepted or lost."
abbrev pub arrival_by : Bool → Arrival
arrival_by true = Accepted
arrival_by false = Lost

-- the document's number of each case: 0 accepted, 1 lost
abbrev pub arrival_number : Arrival → ℕ
arrival_number Accepted = 0
arrival_number Lost = 1

abbrev pub with_loads : List Load → Entry → Entry
with_loads ls e = record { loads = ls; arrivals = e.arrivals; budget = e.budget }

abbrev pub with_entries : List Entry → State → State
with_entries es s = record { entries = es; table = s.table; refills = s.refills }

abbrev pub arrived_state : State → ℕ → ℕ → State
arrived_state s i j =
    with_entries (alter (λ (e : Entry). with_loads (with_arrival (task_at (server_at s i) j).work.0 j e.loads) e) s.entries i) s

-- an arrival's answer, and the state after it
pub record Arrived : Type 0 where
  pub state : State
  pub refusal : Refusal
  pub arrival : Arrival

abbrev pub arrived_with : Refusal → Arrival → State → Arrived
arrived_with r a s = record { state = s; refusal = r; arrival = a }

unfoldable pub arrive_of : State → ℕ → ℕ → Arrived
arrive_of s i j =
    let r = first_of (arrive_checks s i j) in
    pick (eqb r.number 0)
    (arrived_with none (arrival_by (fitsb (task_at (server_at s i) j).work.0 (load_at s i j))) (arrived_state s i j))
    (arrived_with r Accepted s)

-- what the outcome of the call, and the state that it leaves, are as that answer

abbrev pub arrival_in : Result Arrival Reason → Arrival
arrival_in (Ok a) = a
arrival_in (Err r) = Accepted

abbrev pub arrived_by : Result Arrival Reason → State → Arrived
arrived_by o s = arrived_with (refusal_in o) (arrival_in o) s
