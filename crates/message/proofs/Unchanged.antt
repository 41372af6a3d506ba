-- "A refusal answers its number, the place (0 where none is named below) and zero in every other part", and of the writer: what it changes and what it
-- leaves. That the place is 0 stands in Refusals. Assumes nothing.
use mathlib.Core.Path.{◌≡◌, sym, ap, ◌∙◌}
use mathlib.Core.List.{List, ◌++◌}
use mathlib.Core.Logic.{◌≢◌}
use Prim.Native.Nat.{ℕ}
use lib.ListN.{length, drop}
use Rattle.field.proofs.Answers.{written_none, written_whole, buffer_same, buffer_whole}
use Rattle.message.specs.Message.{Reading, zero_message, read_of, raw_bytes, write_refusal}
use Rattle.message.specs.Meaning.{write_of, written_to}
use Rattle.message.proofs.Answers.{read_decided, write_number}
use Rattle.message.proofs.Refusals.{write_accepted}

-- "zero in every other part (the zero of a choice is .. run 0)"
pub read_zero : (bs : List ℕ) → (read_of bs).refusal.number ≢ 0 → (read_of bs).message ≡ zero_message
read_zero bs h = ap (λ (x : Reading). x.message) ((read_decided bs).refused h).1

module _ (kind a b : ℕ) (buf : List ℕ) where
  -- "zero in every other part"
  pub write_zero : (write_of kind a b buf).refusal.number ≢ 0 → (write_of kind a b buf).length ≡ 0
  write_zero h = written_none (write_refusal kind (length buf)) (raw_bytes kind a b) (λ e. h (write_number kind a b buf ∙ e))

  -- and a buffer handed in to a refused writer comes back as it was
  pub write_unchanged : (write_of kind a b buf).refusal.number ≢ 0 → written_to kind a b buf ≡ buf
  write_unchanged h = buffer_same (write_refusal kind (length buf)) (raw_bytes kind a b) buf (λ e. h (write_number kind a b buf ∙ e))

  -- "Message, six bytes"
  pub write_length : (write_of kind a b buf).refusal.number ≡ 0 → (write_of kind a b buf).length ≡ 6
  write_length h = written_whole (write_refusal kind (length buf)) (raw_bytes kind a b) (sym (write_number kind a b buf) ∙ h)

  -- "Writers leave bytes past the output unchanged"
  pub write_rest : (write_of kind a b buf).refusal.number ≡ 0 → written_to kind a b buf ≡ raw_bytes kind a b ++ drop 6 buf
  write_rest h = buffer_whole (write_refusal kind (length buf)) (raw_bytes kind a b) buf (sym (write_number kind a b buf) ∙ h) ((write_accepted kind a b buf).0 h).1
