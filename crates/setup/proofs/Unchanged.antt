-- "A refusal answers its number, the place (0 where none is named below) and zero in every other part"; "Writers leave bytes past the output unchanged." The
-- numbers and places stand in Refusals. Assumes nothing.
use mathlib.Core.Path.{◌≡◌, sym, ap, ◌∙◌}
use mathlib.Core.List.{List, ◌++◌}
use mathlib.Core.Logic.{◌≢◌}
use Prim.Native.Nat.{ℕ}
use lib.ListN.{length, drop}
use Rattle.field.proofs.Answers.{written_number, written_none, written_whole, buffer_same, buffer_whole, buffer_length}
use Rattle.table.specs.Table.{zero_table}
use Rattle.table.specs.declared.Table.{Table}
use Rattle.setup.specs.Layout.{bytes_of}
use Rattle.setup.specs.Read.{Reading, read_of}
use Rattle.setup.specs.Write.{write_refusal, written_to, write_answer}
use Rattle.setup.proofs.Accepted.{read_decided}
use Rattle.setup.proofs.Refusals.{write_accepted}

-- THE READER

-- refused, its table is zero in every part
pub read_refused : (D W : ℕ) (bs : List ℕ) → (read_of D W bs).refusal.number ≢ 0 → (read_of D W bs).table ≡ zero_table
read_refused D W bs h = ap (λ (x : Reading). x.table) ((read_decided D W bs).refused h).1

-- THE WRITER, of a table t into a buffer

module _ (D W : ℕ) (t : Table) (buf : List ℕ) where
  answer_number : (write_answer D W t (length buf)).refusal.number ≡ (write_refusal D W t (length buf)).number
  answer_number = written_number (write_refusal D W t (length buf)) (bytes_of t)

  -- refused, it answers length 0 and changes no byte
  pub write_refused : (write_answer D W t (length buf)).refusal.number ≢ 0 → ((write_answer D W t (length buf)).length ≡ 0) × (written_to D W t buf ≡ buf)
  write_refused h =
      let r = write_refusal D W t (length buf) in
      let m : r.number ≢ 0 = λ e. h (answer_number ∙ e) in
      (written_none r (bytes_of t) m, buffer_same r (bytes_of t) buf m)

  -- accepted, the table's bytes stand first, their length is answered, and every byte past them is as it was
  pub write_whole : (write_answer D W t (length buf)).refusal.number ≡ 0
      → ((write_answer D W t (length buf)).length ≡ length (bytes_of t)) × (written_to D W t buf ≡ bytes_of t ++ drop (length (bytes_of t)) buf)
  write_whole e =
      let r = write_refusal D W t (length buf) in
      let z : r.number ≡ 0 = sym answer_number ∙ e in
      (written_whole r (bytes_of t) z, buffer_whole r (bytes_of t) buf z ((write_accepted D W t (length buf)).0 e).1)

  -- and the buffer keeps its length
  pub write_length : length (written_to D W t buf) ≡ length buf
  write_length = buffer_length (write_refusal D W t (length buf)) (bytes_of t) buf
