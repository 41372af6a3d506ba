-- BOTH ROUND TRIPS: a message that is written reads back as it was, and bytes that are read as a message are the bytes of that message. Assumes nothing.
use mathlib.Core.Path.{◌≡◌, refl, sym, ap, ◌∙◌}
use mathlib.Core.List.{List, [], ◌∷◌, ◌++◌}
use mathlib.Core.Logic.{◌↔◌, ◌⊎◌, inl, inr}
use Prim.Native.Nat.{ℕ, ◌≤◌, ◌<◌}
use native.Mathlib.Nat.{add-zero}
use native.Mathlib.Omega.{arith}
use lib.ListN.{length, take, drop, length-drop, take-append-drop}
use lib.Seq.{take-add, drop-cons, get_or-drop}
use borrow.Author.Tests.{le-ltb}
use Rattle.refusal.specs.Refusal.{none}
use Rattle.refusal.specs.declared.Refusal.{Refusal}
use Rattle.field.specs.Field.{byte_of, big}
use Rattle.field.specs.Bytes.{Bytes}
use Rattle.field.proofs.RoundTrip.{field_big, big_field}
use Rattle.field.proofs.Fields.{bytes_drop, big_bytes, field_below}
use Rattle.message.specs.Message.{Reading, kind_of, values_of, framed, raw_bytes, bytes_of, read_with, read_of}
use Rattle.message.specs.Meaning.{Fits, written_to}
use Rattle.message.specs.declared.Message.{Message}
use Rattle.message.specs.declared.Message.TheVariants.{Run, Arrival}
use Rattle.message.proofs.Cases.{Frame, is_run, is_arrival}
use Rattle.message.proofs.Refusals.{read_accepted, write_accepted}
use Rattle.message.proofs.Unchanged.{write_rest}

-- WRITTEN, THEN READ

-- "Message, six bytes: length 6 (2 bytes), version 1, kind, two bytes": the bytes of a message, whatever stands behind them, are read as that message
pub read_written : (m : Message) → Fits m → (rest : List ℕ) → read_of (bytes_of m ++ rest) ≡ read_with none m
read_written (Run n) h rest = is_run (bytes_of (Run n) ++ rest) (omega arith, refl, refl) refl ∙ ap (λ (k : ℕ). read_with none (Run k)) (field_big 2 n h rest)
read_written (Arrival s t) h rest = is_arrival (bytes_of (Arrival s t) ++ rest) (omega arith, refl, refl) refl

framed_bytes : (kind : ℕ) (values : List ℕ) → kind < 256 → Bytes values → Bytes (framed kind values)
framed_bytes kind values k p = (omega arith, (omega arith, (omega arith, (k, p))))

-- those bytes are bytes
pub bytes_of_lem : (m : Message) → Fits m → Bytes (bytes_of m)
bytes_of_lem (Run n) h = framed_bytes 1 (big 2 n) (omega arith) (big_bytes 2 n)
bytes_of_lem (Arrival s t) h = framed_bytes 2 (s ∷ t ∷ []) (omega arith) (h.0, (h.1, tt))

-- "Kind 1: a number of ticks to run"; "Kind 2: server, task": what the writer writes for a message's kind and its two bytes are the bytes of the message
pub write_message_lem : (m : Message) (a b : ℕ) → values_of m ≡ a ∷ b ∷ [] → raw_bytes (kind_of m) a b ≡ bytes_of m
write_message_lem m a b e = ap (framed (kind_of m)) (sym e)

known : (m : Message) → (kind_of m ≡ 1) ⊎ (kind_of m ≡ 2)
known (Run n) = inl refl
known (Arrival s t) = inr refl

-- and a buffer that has room holds them
message_buffer : (m : Message) (a b : ℕ) (buf : List ℕ) → values_of m ≡ a ∷ b ∷ [] → 6 ≤ length buf → written_to (kind_of m) a b buf ≡ bytes_of m ++ drop 6 buf
message_buffer m a b buf e h =
    write_rest (kind_of m) a b buf ((write_accepted (kind_of m) a b buf).1 (known m, h)) ∙ ap (λ (l : List ℕ). l ++ drop 6 buf) (write_message_lem m a b e)

-- so a message written into a buffer is read from it
pub write_read : (m : Message) → Fits m → (a b : ℕ) (buf : List ℕ) → values_of m ≡ a ∷ b ∷ [] → 6 ≤ length buf
    → read_of (written_to (kind_of m) a b buf) ≡ read_with none m
write_read m f a b buf e h = ap read_of (message_buffer m a b buf e h) ∙ read_written m f (drop 6 buf)

-- READ, THEN WRITTEN

module _ (bs : List ℕ) (bytes : Bytes bs) where
  below : (k : ℕ) → byte_of k bs < 256
  below k =
      let e : byte_of 0 (drop k bs) ≡ byte_of k bs = rw (get_or-drop, add-zero) in
      omega (arith, field_below 1 (drop k bs) (bytes_drop k bs bytes))

  -- the first six bytes, by what the reader tests
  six : (kind : ℕ) → Frame bs → byte_of 3 bs ≡ kind → framed kind (take 2 (drop 4 bs)) ≡ take 6 bs
  six kind (h, l, v) k =
      let t : big 2 6 ≡ take 2 bs = ap (big 2) (sym l) ∙ big_field 2 bs bytes (omega arith) in
      sym (take-add 2 4 bs ∙ rw (drop-cons bs 2 0 (omega arith), drop-cons bs 3 0 (omega arith), v, k, ← t))

  -- the same sentence from the other side: bytes that are read as a message begin with the bytes of that message, and its values fit
  pub written_read : (read_of bs).refusal ≡ none → (bytes_of (read_of bs).message ≡ take 6 bs) × Fits (read_of bs).message
  written_read e =
      let a = (read_accepted bs).0 (ap (λ (r : Refusal). r.number) e) in
      go (a.0, a.1, a.2) a.3
    where
      go : Frame bs → (byte_of 3 bs ≡ 1) ⊎ (byte_of 3 bs ≡ 2) → (bytes_of (read_of bs).message ≡ take 6 bs) × Fits (read_of bs).message
      go f (inl k) =
          let ticks = drop 4 bs in
          let two : 2 ≤ length ticks = rw length-drop (omega arith) in
          let p = bytes_drop 4 bs bytes in
          rw (is_run bs f k) (ap (framed 1) (big_field 2 ticks p two) ∙ six 1 f k, field_below 2 ticks p)
      go f (inr k) =
          let t : take 2 (drop 4 bs) ≡ byte_of 4 bs ∷ byte_of 5 bs ∷ [] = rw (drop-cons bs 4 0 (omega arith), drop-cons bs 5 0 (omega arith)) in
          rw (is_arrival bs f k) (ap (framed 2) (sym t) ∙ six 2 f k, (below 4, below 5))

  -- so the message read, written into a buffer, gives the same bytes again
  pub read_write : (read_of bs).refusal ≡ none → let m = (read_of bs).message in (a b : ℕ) (buf : List ℕ) → values_of m ≡ a ∷ b ∷ [] → 6 ≤ length buf
      → written_to (kind_of m) a b buf ≡ take 6 bs ++ drop 6 buf
  read_write r a b buf e h = message_buffer (read_of bs).message a b buf e h ∙ ap (λ (l : List ℕ). l ++ drop 6 buf) (written_read r).0

  -- "Message, six bytes: ..": the reader accepts the bytes of messages, and none else
  pub accepts_exactly : (read_of bs).refusal ≡ none ↔ ((m : Message) × Fits m × (take 6 bs ≡ bytes_of m))
  accepts_exactly = (λ e. let r = written_read e in ((read_of bs).message, r.1, sym r.0), back)
    where
      back : (m : Message) × Fits m × (take 6 bs ≡ bytes_of m) → (read_of bs).refusal ≡ none
      back (m, f, t) =
          ap (λ (r : Reading). r.refusal)
          (ap read_of (sym (take-append-drop 6 bs)) ∙ ap (λ (l : List ℕ). read_of (l ++ drop 6 bs)) t ∙ read_written m f (drop 6 bs))

-- "The message reader doesn't look past the sixth byte"
pub sixth : (bs : List ℕ) → read_of bs ≡ read_of (take 6 bs)
unfolding read_of
sixth [] = refl
sixth (a ∷ []) = refl
sixth (a ∷ b ∷ []) = refl
sixth (a ∷ b ∷ c ∷ []) = refl
sixth (a ∷ b ∷ c ∷ d ∷ []) = refl
sixth (a ∷ b ∷ c ∷ d ∷ e ∷ []) = refl
sixth (a ∷ b ∷ c ∷ d ∷ e ∷ f ∷ rest) =
    let n = length (a ∷ b ∷ c ∷ d ∷ e ∷ f ∷ rest) in
    rw (le-ltb n 2 (omega arith), le-ltb n 6 (omega arith))
