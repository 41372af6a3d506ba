-- "Message, six bytes: length 6 (2 bytes), version 1, kind, two bytes. Kind 1: a number of ticks to run, 0 to 65,535. Kind 2: server, task."
use Rattle.std.specs.Prelude.{Result, Ok, Err, Bool, false, not, List, [], ◌∷◌, ◌++◌, ℕ, ltb, eqb, length, drop}
use Rattle.small.specs.Small.{pick}
use Rattle.refusal.specs.Numbers.{message_cut, message_length, message_version, message_kind, buffer_short}
use Rattle.refusal.specs.Refusal.{none, Check, check, first_of}
use Rattle.refusal.specs.Reason.{refusal_by}
use Rattle.refusal.specs.declared.Refusal.{Refusal}
use Rattle.refusal.specs.declared.Reason.{Reason}
use Rattle.refusal.specs.declared.Reason.TheVariants.{MessageKind}
use Rattle.field.specs.Field.{byte_of, field_of, big}
use Rattle.message.specs.declared.Message.{Message}
use Rattle.message.specs.declared.Message.TheVariants.{Run, Arrival}
use Rattle.message.specs.declared.Kind.{Kind}
use Rattle.message.specs.declared.Kind.TheVariants.{Run as RunKind, Arrival as ArrivalKind}

-- the message that is read, or why it is none
pub record Reading : Type 0 where
  pub refusal : Refusal
  pub message : Message

-- the kind and the two bytes of each case
abbrev pub kind_of : Message → ℕ
kind_of (Run n) = 1
kind_of (Arrival s t) = 2

abbrev pub values_of : Message → List ℕ
values_of (Run n) = big 2 n
values_of (Arrival s t) = s ∷ t ∷ []

-- the six bytes of a kind and two values
abbrev pub framed : ℕ → List ℕ → List ℕ
framed kind values = big 2 6 ++ (1 ∷ kind ∷ values)

abbrev pub raw_bytes : ℕ → ℕ → ℕ → List ℕ
raw_bytes kind a b = framed kind (a ∷ b ∷ [])

-- THE BYTES OF A MESSAGE
abbrev pub bytes_of : Message → List ℕ
bytes_of m = framed (kind_of m) (values_of m)

-- "the zero of a choice is .. run 0"
abbrev pub zero_message : Message
zero_message = Run 0

abbrev pub read_with : Refusal → Message → Reading
read_with r m = record { refusal = r; message = m }

-- what a reader's outcome is as a reading: "the zero of a choice is .. run 0"
abbrev pub reading_by : Result Message Reason → Reading
reading_by (Ok m) = read_with none m
reading_by (Err r) = read_with (refusal_by r) zero_message

-- "Kind not 1 or 2"
abbrev pub other_kind : ℕ → Bool
other_kind kind = pick (eqb kind 1) false (not (eqb kind 2))

-- the kind that a byte names
abbrev pub kind_named : ℕ → Result Kind Reason
kind_named byte = pick (eqb byte 1) (Ok RunKind) (pick (eqb byte 2) (Ok ArrivalKind) (Err MessageKind))

-- "Messages: under 2 bytes 14, then 15, under 6 bytes 14, 16, 17"
abbrev pub read_checks : List ℕ → List Check
read_checks bs =
    check message_cut (ltb (length bs) 2)
    ∷ check message_length (not (eqb (field_of 2 bs) 6))
    ∷ check message_cut (ltb (length bs) 6)
    ∷ check message_version (not (eqb (byte_of 2 bs) 1))
    ∷ check message_kind (other_kind (byte_of 3 bs))
    ∷ []

abbrev pub message_of : List ℕ → Message
message_of bs = pick (eqb (byte_of 3 bs) 1) (Run (field_of 2 (drop 4 bs))) (Arrival (byte_of 4 bs) (byte_of 5 bs))

unfoldable pub read_of : List ℕ → Reading
read_of bs =
    let r = first_of (read_checks bs) in
    pick (eqb r.number 0) (read_with none (message_of bs)) (read_with r zero_message)

-- "The message writer takes any two bytes; a kind not 1 or 2 is 17", and 32 last: a buffer of n bytes is too short
abbrev pub write_checks : ℕ → ℕ → List Check
write_checks kind n = check message_kind (other_kind kind) ∷ check buffer_short (ltb n 6) ∷ []

abbrev pub write_refusal : ℕ → ℕ → Refusal
write_refusal kind n = first_of (write_checks kind n)
