-- A reason in the code and its number in the table; what an outcome is as a refusal.
use Rattle.std.specs.Prelude.{ℕ, Result, Ok, Err}
use Rattle.refusal.specs.Numbers.{setup_short, length_differs, setup_version, server_count, record_cut, server_kind, task_count, period_range, budget_range, release_kind, work_range, release_times, bytes_left, message_cut, message_length, message_version, message_kind, no_server, no_task, task_periodic, ticks_passed, id_of_filler, id_there, delay_too_long, no_room, no_such_event, event_due, nothing_due, at_longest, no_room_again, unsound, buffer_short}
use Rattle.refusal.specs.Refusal.{refused, none}
use Rattle.refusal.specs.declared.Reason.{Reason}
use Rattle.refusal.specs.declared.Reason.TheVariants.{SetupShort, LengthDiffers, SetupVersion, ServerCount, RecordCut, ServerKind, TaskCount, PeriodRange, BudgetRange, ReleaseKind, WorkRange, ReleaseTimes, BytesLeft, MessageCut, MessageLength, MessageVersion, MessageKind, NoServer, NoTask, TaskPeriodic, TicksPassed, IdOfFiller, IdThere, DelayTooLong, NoRoom, NoSuchEvent, EventDue, NothingDue, AtLongest, NoRoomAgain, Unsound, BufferShort}
use Rattle.refusal.specs.declared.Fault.{Fault}
use Rattle.refusal.specs.declared.Refusal.{Refusal}

abbrev pub number_of : Reason → ℕ
number_of SetupShort = setup_short
number_of LengthDiffers = length_differs
number_of SetupVersion = setup_version
number_of ServerCount = server_count
number_of RecordCut = record_cut
number_of ServerKind = server_kind
number_of TaskCount = task_count
number_of PeriodRange = period_range
number_of BudgetRange = budget_range
number_of ReleaseKind = release_kind
number_of WorkRange = work_range
number_of ReleaseTimes = release_times
number_of BytesLeft = bytes_left
number_of MessageCut = message_cut
number_of MessageLength = message_length
number_of MessageVersion = message_version
number_of MessageKind = message_kind
number_of NoServer = no_server
number_of NoTask = no_task
number_of TaskPeriodic = task_periodic
number_of TicksPassed = ticks_passed
number_of IdOfFiller = id_of_filler
number_of IdThere = id_there
number_of DelayTooLong = delay_too_long
number_of NoRoom = no_room
number_of NoSuchEvent = no_such_event
number_of EventDue = event_due
number_of NothingDue = nothing_due
number_of AtLongest = at_longest
number_of NoRoomAgain = no_room_again
number_of Unsound = unsound
number_of BufferShort = buffer_short

abbrev pub fault_of : Reason → ℕ → Fault
fault_of r place = record { reason = r; place = place }

-- a reason that names no place
abbrev pub refusal_by : Reason → Refusal
refusal_by r = refused (number_of r) 0

abbrev pub refusal_at : Fault → Refusal
refusal_at f = refused (number_of f.reason) f.place

-- WHAT AN OUTCOME IS AS A REFUSAL: none where it is Ok

abbrev pub refusal_in : {A : Type 0} → Result A Reason → Refusal
refusal_in (Ok x) = none
refusal_in (Err r) = refusal_by r

abbrev pub fault_in : {A : Type 0} → Result A Fault → Refusal
fault_in (Ok x) = none
fault_in (Err f) = refusal_at f
