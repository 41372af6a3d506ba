-- What the program does with a setup, with a message, and with the ticks that a message asks for. Document 01, "The trace program".
use Rattle.std.specs.Prelude.{⊤, Bool, true, false, not, List, [], ◌∷◌, ℕ, ◌+◌, ◌-◌, ltb, eqb, Result, Ok, Err}
use Rattle.small.specs.Small.{pick, padded}
use Rattle.refusal.specs.Numbers.{ticks_passed, unsound}
use Rattle.refusal.specs.Refusal.{none, Check, check, first_of}
use Rattle.refusal.specs.Reason.{number_of, refusal_by, refusal_at}
use Rattle.refusal.specs.declared.Refusal.{Refusal}
use Rattle.refusal.specs.declared.Reason.{Reason}
use Rattle.refusal.specs.declared.Reason.TheVariants.{Unsound}
use Rattle.refusal.specs.declared.Fault.{Fault}
use Rattle.queue.specs.Limits.{longest}
use Rattle.table.specs.Limits.{most_work}
use Rattle.table.specs.Table.{zero_table}
use Rattle.setup.specs.Read.{read_of as setup_of}
use Rattle.message.specs.Message.{read_of}
use Rattle.message.specs.declared.Message.{Message}
use Rattle.message.specs.declared.Message.TheVariants.{Run, Arrival}
use Rattle.state.specs.Sound.{stateb}
use Rattle.state.specs.Fresh.{empty_state, fresh_of}
use Rattle.state.specs.declared.State.{State}
use Rattle.state.specs.declared.Choice.TheVariants.{Idle}
use Rattle.scheduler.specs.Arrive.{Arrived, arrival_number, arrive_of}
use Rattle.scheduler.specs.Run.{batch_size, answer, run_of}
use Rattle.scheduler.specs.declared.Answer.{Answer}
use Rattle.lines.specs.declared.Line.{Line}
use Rattle.lines.specs.declared.Line.TheVariants.{Nothing, Refused, Lost}
use Rattle.desk.specs.declared.Desk.{Desk}
use Rattle.desk.specs.declared.Ran.{Ran}

-- "21: program: the message would pass 1,000,000 ticks"
abbrev pub tick_limit : ℕ
tick_limit = 1000000

abbrev pub desk_with : State → ℕ → ℕ → Desk
desk_with s ran left = record { state = s; ran = ran; left = left }

-- the run that a setup begins, or why it begins none
pub record Opened : Type 0 where
  pub desk : Desk
  pub refusal : Refusal

-- what a message comes to: the run after it, the line it writes, and whether the program stops there
pub record Met : Type 0 where
  pub desk : Desk
  pub line : Line
  pub stop : Bool

-- the answers of a batch of ticks, the first one's number, and how many there are. Refused: the run as it was, and zero in every other part
pub record RanOn : Type 0 where
  pub answers : List Answer
  pub desk : Desk
  pub refusal : Refusal
  pub first : ℕ
  pub count : ℕ

abbrev pub met : Desk → Line → Bool → Met
met d l stop = record { desk = d; line = l; stop = stop }

-- THE SETUP: its fresh state, with no tick run
unfoldable pub open_of : List ℕ → Opened
open_of bytes =
    let r = setup_of longest most_work bytes in
    record { desk = desk_with (fresh_of r.table).state 0 0; refusal = r.refusal }

-- A MESSAGE, whose first byte stands at k

-- its ticks come behind those that are left. "A message refused with 21 runs none of its ticks": its refusal stops the run
unfoldable pub asked_of : Desk → ℕ → ℕ → Met
asked_of d n k =
    pick (ltb tick_limit (d.ran + d.left + n)) (met d (Refused ticks_passed k) true) (met (desk_with d.state d.ran (d.left + n)) Nothing false)

-- "An arrival message that is lost writes `lost S T`; an accepted one .. nothing. A refused arrival writes `refused N at K` .. and the run goes on."
abbrev pub arrival_line : Arrived → ℕ → ℕ → ℕ → Line
arrival_line a i j k = pick (eqb a.refusal.number 0) (pick (eqb (arrival_number a.arrival) 0) Nothing (Lost i j)) (Refused a.refusal.number k)

unfoldable pub arrived_of : Desk → ℕ → ℕ → ℕ → Met
arrived_of d i j k =
    let a = arrive_of d.state i j in
    met (desk_with a.state d.ran d.left) (arrival_line a i j k) false

abbrev pub done_of : Desk → ℕ → Message → Met
done_of d k (Run n) = asked_of d n k
done_of d k (Arrival i j) = arrived_of d i j k

-- "31 comes first everywhere": what a message comes to on a state that is sound, and on one that is not
abbrev pub sound_first : Desk → ℕ → Met → Met
sound_first d k m = pick (stateb d.state) m (met d (Refused unsound k) true)

-- "Other refusals write that line and stop without `end`"
unfoldable pub message_of : Desk → ℕ → List ℕ → Met
message_of d k bytes =
    let r = read_of bytes in
    sound_first d k (pick (eqb r.refusal.number 0) (done_of d k r.message) (met d (Refused r.refusal.number k) true))

-- ITS TICKS, batch by batch

abbrev pub ran_checks : Desk → List Check
ran_checks d = check unsound (not (stateb d.state)) ∷ check ticks_passed (ltb tick_limit (d.ran + d.left)) ∷ []

abbrev pub ran_with : Refusal → List Answer → Desk → ℕ → ℕ → RanOn
ran_with r answers d first n = record { answers = answers; desk = d; refusal = r; first = first; count = n }

-- "zero in every other part", and the run as it was
abbrev pub not_run : Refusal → Desk → RanOn
not_run r d = ran_with r (padded (answer Idle 0) batch_size []) d 0 0

-- those that are left, at most as many as one run of the scheduler has
abbrev pub next_batch : Desk → RanOn
next_batch d =
    let b = run_of d.state d.left in
    ran_with none b.answers (desk_with b.state (d.ran + b.count) (d.left - b.count)) d.ran b.count

unfoldable pub ran_of : Desk → RanOn
ran_of d = let r = first_of (ran_checks d) in pick (eqb r.number 0) (next_batch d) (not_run r d)

-- WHAT THE OUTCOMES OF THE CALLS ARE, as these answers

-- a refused setup leaves no run: zero in every part
abbrev pub opened_by : Result Desk Fault → Opened
opened_by (Ok d) = record { desk = d; refusal = none }
opened_by (Err f) = record { desk = desk_with (empty_state zero_table) 0 0; refusal = refusal_at f }

-- of a message, and the run after it: an error is the line behind which the program stops
abbrev pub met_by : Result Line Line → Desk → Met
met_by (Ok l) d = met d l false
met_by (Err l) d = met d l true

-- before the line of a refusal is made, which names the message's place k
abbrev pub decided_by : ℕ → Result Line Reason → Desk → Met
decided_by k (Ok l) d = met d l false
decided_by k (Err r) d = met d (Refused (number_of r) k) true

-- of a batch, and the run after it
abbrev pub ran_by : Result Ran Reason → Desk → RanOn
ran_by (Ok r) d = ran_with none r.answers d r.first r.count
ran_by (Err r) d = not_run (refusal_by r) d

-- whether the state of a run is sound
abbrev pub sound_of : Desk → Result ⊤ Reason
sound_of d = pick (stateb d.state) (Ok tt) (Err Unsound)
