-- A number of the table names one reason: what an outcome is as a refusal tells the outcome.
use Rattle.std.proofs.Common.{arith}
use mathlib.Core.Path.{◌≡◌, refl, sym, ap, ◌∙◌}
use lib.Dec.{eqb}
use Rattle.std.specs.Prelude.{ℕ, ◌<◌, Result, Ok, Err, ⊤}
use Rattle.small.specs.Small.{pick}
use Rattle.refusal.specs.Reason.{number_of, fault_of, refusal_at, refusal_in}
use Rattle.refusal.specs.declared.Refusal.{Refusal}
use Rattle.refusal.specs.declared.Fault.{Fault}
use Rattle.refusal.specs.declared.Reason.{Reason}
use Rattle.refusal.specs.declared.Reason.TheVariants.{SetupShort, LengthDiffers, SetupVersion, ServerCount, RecordCut, ServerKind, TaskCount, PeriodRange, BudgetRange, ReleaseKind, WorkRange, ReleaseTimes, BytesLeft, MessageCut, MessageLength, MessageVersion, MessageKind, NoServer, NoTask, TaskPeriodic, TicksPassed, IdOfFiller, IdThere, DelayTooLong, NoRoom, NoSuchEvent, EventDue, NothingDue, AtLongest, NoRoomAgain, Unsound, BufferShort}

-- the reason that a number names
abbrev back : ℕ → Reason
back n = pick (eqb n 1) SetupShort
    (pick (eqb n 2) LengthDiffers
    (pick (eqb n 3) SetupVersion
    (pick (eqb n 4) ServerCount
    (pick (eqb n 5) RecordCut
    (pick (eqb n 6) ServerKind
    (pick (eqb n 7) TaskCount
    (pick (eqb n 8) PeriodRange
    (pick (eqb n 9) BudgetRange
    (pick (eqb n 10) ReleaseKind
    (pick (eqb n 11) WorkRange
    (pick (eqb n 12) ReleaseTimes
    (pick (eqb n 13) BytesLeft
    (pick (eqb n 14) MessageCut
    (pick (eqb n 15) MessageLength
    (pick (eqb n 16) MessageVersion
    (pick (eqb n 17) MessageKind
    (pick (eqb n 18) NoServer
    (pick (eqb n 19) NoTask
    (pick (eqb n 20) TaskPeriodic
    (pick (eqb n 21) TicksPassed
    (pick (eqb n 22) IdOfFiller
    (pick (eqb n 23) IdThere
    (pick (eqb n 24) DelayTooLong
    (pick (eqb n 25) NoRoom
    (pick (eqb n 26) NoSuchEvent
    (pick (eqb n 27) EventDue
    (pick (eqb n 28) NothingDue
    (pick (eqb n 29) AtLongest
    (pick (eqb n 30) NoRoomAgain
    (pick (eqb n 31) Unsound
    (pick (eqb n 32) BufferShort Unsound)))))))))))))))))))))))))))))))

back_is : (r : Reason) → back (number_of r) ≡ r
back_is SetupShort = refl
back_is LengthDiffers = refl
back_is SetupVersion = refl
back_is ServerCount = refl
back_is RecordCut = refl
back_is ServerKind = refl
back_is TaskCount = refl
back_is PeriodRange = refl
back_is BudgetRange = refl
back_is ReleaseKind = refl
back_is WorkRange = refl
back_is ReleaseTimes = refl
back_is BytesLeft = refl
back_is MessageCut = refl
back_is MessageLength = refl
back_is MessageVersion = refl
back_is MessageKind = refl
back_is NoServer = refl
back_is NoTask = refl
back_is TaskPeriodic = refl
back_is TicksPassed = refl
back_is IdOfFiller = refl
back_is IdThere = refl
back_is DelayTooLong = refl
back_is NoRoom = refl
back_is NoSuchEvent = refl
back_is EventDue = refl
back_is NothingDue = refl
back_is AtLongest = refl
back_is NoRoomAgain = refl
back_is Unsound = refl
back_is BufferShort = refl

pub number_one : (a b : Reason) → number_of a ≡ number_of b → a ≡ b
number_one a b e = sym (back_is a) ∙ ap back e ∙ back_is b

some_number : (r : Reason) → 0 < number_of r
some_number SetupShort = omega arith
some_number LengthDiffers = omega arith
some_number SetupVersion = omega arith
some_number ServerCount = omega arith
some_number RecordCut = omega arith
some_number ServerKind = omega arith
some_number TaskCount = omega arith
some_number PeriodRange = omega arith
some_number BudgetRange = omega arith
some_number ReleaseKind = omega arith
some_number WorkRange = omega arith
some_number ReleaseTimes = omega arith
some_number BytesLeft = omega arith
some_number MessageCut = omega arith
some_number MessageLength = omega arith
some_number MessageVersion = omega arith
some_number MessageKind = omega arith
some_number NoServer = omega arith
some_number NoTask = omega arith
some_number TaskPeriodic = omega arith
some_number TicksPassed = omega arith
some_number IdOfFiller = omega arith
some_number IdThere = omega arith
some_number DelayTooLong = omega arith
some_number NoRoom = omega arith
some_number NoSuchEvent = omega arith
some_number EventDue = omega arith
some_number NothingDue = omega arith
some_number AtLongest = omega arith
some_number NoRoomAgain = omega arith
some_number Unsound = omega arith
some_number BufferShort = omega arith

-- an outcome with nothing in it is told by its refusal
pub refusal_in_one : (a b : Result ⊤ Reason) → refusal_in a ≡ refusal_in b → a ≡ b
refusal_in_one (Ok x) (Ok y) e = refl
refusal_in_one (Ok x) (Err r) e = absurd (let h = ap (λ (x : Refusal). x.number) e in let k = some_number r in omega arith)
refusal_in_one (Err r) (Ok x) e = absurd (let h = ap (λ (x : Refusal). x.number) e in let k = some_number r in omega arith)
refusal_in_one (Err r) (Err s) e = ap Err (number_one r s (ap (λ (x : Refusal). x.number) e))

-- a reason at a place is told by its refusal
pub fault_one : (f g : Fault) → refusal_at f ≡ refusal_at g → f ≡ g
fault_one f g e = go f.reason g.reason (number_one f.reason g.reason (ap (λ (x : Refusal). x.number) e)) (ap (λ (x : Refusal). x.place) e)
  where
    go : (r s : Reason) {p q : ℕ} → r ≡ s → p ≡ q → fault_of r p ≡ fault_of s q
    go r s {p} {q} h k = rw h (rw k refl)
