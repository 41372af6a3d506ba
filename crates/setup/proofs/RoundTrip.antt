-- "Setup: total length (2 bytes), version 1, number of servers, then each server ..": what is written reads back, what is accepted writes the same bytes,
-- and nothing else is accepted. D is the longest period and offset, W the most work; both fit into the four bytes of a field. Assumes nothing.
use mathlib.Core.Path.{◌≡◌, refl, sym, ap, ◌∙◌}
use mathlib.Core.Bool.{true}
use mathlib.Core.List.{List, ◌++◌}
use mathlib.Core.Logic.{◌↔◌}
use Prim.Native.Nat.{ℕ, ◌^◌, ◌≤◌, ◌<◌}
use lib.ListN.{length, take, drop, replicate, length-append, get_or-replicate}
use lib.Seq.{take-append_seam}
use borrow.Author.Tests.{le-leb}
use Rattle.refusal.specs.Refusal.{none}
use Rattle.field.specs.Field.{field_of}
use Rattle.field.specs.Bytes.{Bytes}
use Rattle.table.specs.Limits.{entries}
use Rattle.table.specs.Table.{ticks, served, zero_server}
use Rattle.table.specs.Sound.{tableb}
use Rattle.table.specs.Meaning.{Sized}
use Rattle.table.specs.declared.Release.TheVariants.{OnArrival}
use Rattle.table.specs.declared.Server.{Server}
use Rattle.table.specs.declared.Table.{Table}
use Rattle.table.proofs.Soundness.{table_sound}
use Rattle.setup.specs.Layout.{task_bytes, head_bytes, server_bytes, record_bytes, bytes_of}
use Rattle.setup.specs.Read.{Reading, table_of, read_with, read_of}
use Rattle.setup.specs.Write.{written_to, write_answer}
use Rattle.setup.proofs.Accepted.{table_read, table_passes, table_sized, table_in_range, table_bytes, most_bytes, stated_length, all_bytes, read_passed, passed_read}
use Rattle.setup.proofs.Refusals.{write_accepted}
use Rattle.setup.proofs.Unchanged.{write_whole}

-- A SOUND TABLE, with its eight entries of eight
module _ (D W : ℕ) (t : Table) (z : Sized t) (s : tableb D W t ≡ true) where
  -- a sound table written and read gives the same table
  pub read_bytes : D < 256 ^ 4 → W < 256 ^ 4 → read_of D W (bytes_of t) ≡ read_with none t
  read_bytes d w =
      let h = (table_sound D W t z).0 s in
      passed_read D W (bytes_of t) (table_passes D W t z h d w) ∙ ap (read_with none) (table_read D W t z h d w)

  -- "total length (2 bytes)"; "The longest is 916 bytes"
  pub bytes_length : (field_of 2 (bytes_of t) ≡ length (bytes_of t)) × (length (bytes_of t) ≤ 916)
  bytes_length = let h = (table_sound D W t z).0 s in (stated_length D W t z h, most_bytes D W t z h)

  -- what is written are bytes
  pub bytes_bytes : Bytes (bytes_of t)
  bytes_bytes = all_bytes D W t z ((table_sound D W t z).0 s)

-- AN ACCEPTED SETUP
module _ (D W : ℕ) (bs : List ℕ) (a : (read_of D W bs).refusal.number ≡ 0) where
  accepted_table : (read_of D W bs).table ≡ table_of bs
  accepted_table = ap (λ (r : Reading). r.table) (passed_read D W bs ((read_passed D W bs).0 a))

  -- "A table alone is sound if its values are in range and its unused entries zero": the reader gives no other, with eight entries of eight
  pub accepted_sound : (tableb D W (read_of D W bs).table ≡ true) × Sized (read_of D W bs).table
  accepted_sound =
      let p = (read_passed D W bs).0 a in
      let z = table_sized D W bs p in
      rw accepted_table ((table_sound D W (table_of bs) z).1 (table_in_range D W bs p), z)

  -- an accepted setup, written again, gives the same bytes
  pub bytes_read : Bytes bs → bytes_of (read_of D W bs).table ≡ bs
  bytes_read b = rw accepted_table (table_bytes D W bs ((read_passed D W bs).0 a) b)

-- the setups that are accepted are the sound tables' bytes, and no others
pub accepts_exactly : (D W : ℕ) → D < 256 ^ 4 → W < 256 ^ 4 → (bs : List ℕ) → Bytes bs
    → (read_of D W bs).refusal.number ≡ 0 ↔ ((t : Table) × (Sized t) × (tableb D W t ≡ true) × (bs ≡ bytes_of t))
accepts_exactly D W d w bs b = (
  λ a. let h = accepted_sound D W bs a in ((read_of D W bs).table, h.1, h.0, sym (bytes_read D W bs a b)),
  λ h. ap (λ (l : List ℕ). (read_of D W l).refusal.number) h.3 ∙ ap (λ (r : Reading). r.refusal.number) (read_bytes D W h.0 h.1 h.2 d w),
)

-- BY THE WRITER'S CALL AND THE READER'S

-- a table that the writer accepts is read from the bytes that it wrote
pub written_read : (D W : ℕ) → D < 256 ^ 4 → W < 256 ^ 4 → (t : Table) → Sized t → (buf : List ℕ) → (write_answer D W t (length buf)).refusal.number ≡ 0
    → read_of D W (take (write_answer D W t (length buf)).length (written_to D W t buf)) ≡ read_with none t
written_read D W d w t z buf e =
    let (n, after) = write_whole D W t buf e in
    rw (n, after, take-append_seam (bytes_of t) (drop (length (bytes_of t)) buf)) (read_bytes D W t z ((write_accepted D W t (length buf)).0 e).0 d w)

-- a setup that the reader accepts is what the writer writes of its table, into any buffer that is long enough
pub read_written : (D W : ℕ) (bs : List ℕ) → Bytes bs → (read_of D W bs).refusal.number ≡ 0 → (buf : List ℕ) → length bs ≤ length buf
    → let t = (read_of D W bs).table in
    let answer = write_answer D W t (length buf) in
    (answer.refusal.number ≡ 0) × (answer.length ≡ length bs) × (written_to D W t buf ≡ bs ++ drop (length bs) buf)
read_written D W bs b a buf h =
    let t = (read_of D W bs).table in
    let e = bytes_read D W bs a b in
    let accepted = (write_accepted D W t (length buf)).1 ((accepted_sound D W bs a).0, rw e h) in
    let (n, after) = write_whole D W t buf accepted in
    (accepted, n ∙ ap length e, after ∙ ap (λ (l : List ℕ). l ++ drop (length l) buf) e)

-- THE LONGEST: eight servers, each with eight tasks

full_server : Server
full_server = record {
  tasks = replicate entries record { work = served 1; release = OnArrival };
  count = entries;
  kind = 1;
  period = ticks 1;
  budget = served 1;
}

full_table : Table
full_table = record { servers = replicate entries full_server; count = entries }

full_length : length (server_bytes full_server) ≡ 114
unfolding full_server server_bytes head_bytes task_bytes
full_length = refl

-- "The longest is 916 bytes": there is one
pub longest_there : (D W : ℕ) → 1 ≤ D → 1 ≤ W → (t : Table) × Sized t × (tableb D W t ≡ true) × (length (bytes_of t) ≡ 916)
unfolding full_table full_server tableb bytes_of record_bytes
longest_there D W d w = (
  full_table,
  record { servers = refl; tasks = λ i h. ap (λ (s : Server). length s.tasks) (get_or-replicate entries i full_server zero_server h) },
  rw (le-leb 1 D d, le-leb 1 W w),
  simp (length-append, full_length),
)
