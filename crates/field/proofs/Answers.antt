-- Laws of a writer's answer and of the buffer that it leaves, for any refusal r and any bytes. Assumes nothing.
use mathlib.Core.Path.{◌≡◌, refl, ap}
use mathlib.Core.Bool.{Bool, true, false}
use mathlib.Core.List.{List, ◌++◌}
use mathlib.Core.Logic.{◌≢◌}
use Prim.Native.Nat.{ℕ, ◌≤◌}
use lib.Dec.{eqb}
use lib.ListN.{length, drop}
use borrow.Author.Tests.{ne_eqb}
use Rattle.std.specs.Prelude.{Result, Ok, Err}
use Rattle.small.specs.Small.{pick}
use Rattle.refusal.specs.Refusal.{none}
use Rattle.refusal.specs.declared.Refusal.{Refusal}
use Rattle.refusal.specs.declared.Reason.{Reason}
use Rattle.refusal.proofs.Reasons.{refusal_in_one, number_one}
use Rattle.refusal.proofs.Decided.{Decided, decided}
use Rattle.field.specs.Field.{over}
use Rattle.field.specs.Write.{Written, written_with, written_by, written, buffer_after}
use Rattle.field.proofs.Fields.{over_start, over_length}

module _ (r : Refusal) (bytes : List ℕ) where
  written_decided : Decided (λ (w : Written). w.refusal) r (written_with none (length bytes)) (written_with r 0) (written r bytes)
  written_decided = decided (λ (w : Written). w.refusal) r _ _ (written r bytes) refl refl refl

  pub written_number : (written r bytes).refusal.number ≡ r.number
  written_number = written_decided.number

  pub written_place : r.place ≡ 0 → (written r bytes).refusal.place ≡ 0
  written_place = written_decided.place

  -- refused: no length, and the buffer as it was
  pub written_none : r.number ≢ 0 → (written r bytes).length ≡ 0
  written_none h = rw (ne_eqb r.number 0 h)

  pub buffer_same : (buf : List ℕ) → r.number ≢ 0 → buffer_after r bytes buf ≡ buf
  buffer_same buf h = rw (ne_eqb r.number 0 h)

  -- not refused: the length, and the bytes before the rest of the buffer
  pub written_whole : r.number ≡ 0 → (written r bytes).length ≡ length bytes
  written_whole e = rw e

  pub buffer_whole : (buf : List ℕ) → r.number ≡ 0 → length bytes ≤ length buf → buffer_after r bytes buf ≡ bytes ++ drop (length bytes) buf
  buffer_whole buf e h = rw e (over_start bytes buf h)

  pub buffer_length : (buf : List ℕ) → length (buffer_after r bytes buf) ≡ length buf
  buffer_length buf = go (eqb r.number 0)
    where
      go : (b : Bool) → length (pick b (over 0 bytes buf) buf) ≡ length buf
      go true = over_length 0 bytes buf
      go false = refl

-- an outcome is told by its answer
pub written_one : (a b : Result ℕ Reason) → written_by a ≡ written_by b → a ≡ b
written_one (Ok m) (Ok n) e = ap Ok (ap (λ (w : Written). w.length) e)
written_one (Ok m) (Err r) e = absurd (let h = refusal_in_one (Ok tt) (Err r) (ap (λ (w : Written). w.refusal) e) in cc)
written_one (Err r) (Ok n) e = absurd (let h = refusal_in_one (Err r) (Ok tt) (ap (λ (w : Written). w.refusal) e) in cc)
written_one (Err r) (Err s) e = ap Err (number_one r s (ap (λ (w : Written). w.refusal.number) e))
