-- What the answers of the reader and of the writer say of their refusals, and what they tell of the outcome. Assumes nothing.
use mathlib.Core.Path.{◌≡◌, refl, ap}
use mathlib.Core.List.{List}
use Prim.Native.Nat.{ℕ}
use lib.ListN.{length}
use Rattle.std.specs.Prelude.{Result, Ok, Err}
use Rattle.refusal.specs.Refusal.{none, first_of}
use Rattle.refusal.proofs.Decided.{Decided, decided}
use Rattle.refusal.specs.declared.Reason.{Reason}
use Rattle.refusal.proofs.Reasons.{refusal_in_one, number_one}
use Rattle.field.proofs.Answers.{written_number}
use Rattle.message.specs.Message.{Reading, reading_by, zero_message, read_with, message_of, read_checks, read_of, raw_bytes, write_checks, write_refusal}
use Rattle.message.specs.declared.Message.{Message}
use Rattle.message.specs.Meaning.{write_of}

module _ (bs : List ℕ) where
  pub read_decided : let r = first_of (read_checks bs) in Decided (λ (x : Reading). x.refusal) r (read_with none (message_of bs)) (read_with r zero_message) (read_of bs)
  unfolding read_of
  read_decided = decided (λ (x : Reading). x.refusal) (first_of (read_checks bs)) _ _ (read_of bs) refl refl refl

module _ (kind a b : ℕ) (buf : List ℕ) where
  pub write_number : (write_of kind a b buf).refusal.number ≡ (first_of (write_checks kind (length buf))).number
  write_number = written_number (write_refusal kind (length buf)) (raw_bytes kind a b)

-- an outcome is told by its reading
pub reading_one : (a b : Result Message Reason) → reading_by a ≡ reading_by b → a ≡ b
reading_one (Ok m) (Ok n) e = ap Ok (ap (λ (x : Reading). x.message) e)
reading_one (Ok m) (Err r) e = absurd (let h = refusal_in_one (Ok tt) (Err r) (ap (λ (x : Reading). x.refusal) e) in cc)
reading_one (Err r) (Ok n) e = absurd (let h = refusal_in_one (Err r) (Ok tt) (ap (λ (x : Reading). x.refusal) e) in cc)
reading_one (Err r) (Err s) e = ap Err (number_one r s (ap (λ (x : Reading). x.refusal.number) e))
