-- A setup that passes every test is the bytes of the table that it gives, which is sound; the bytes of a sound table pass every test and give it back; and
-- the answer's refusal is that of the first test that holds. Assumes nothing.
use mathlib.Core.Path.{◌≡◌, refl, sym, ap, subst, ◌∙◌}
use mathlib.Core.Bool.{Bool, true, false}
use mathlib.Core.List.{List, [], ◌∷◌, ◌++◌, append-nil}
use mathlib.Core.Logic.{◌↔◌}
use Prim.Native.Nat.{ℕ, zero, suc, ◌+◌, ◌^◌, ◌≤◌, ◌<◌}
use native.Mathlib.Omega.{arith}
use lib.Dec.{ltb}
use lib.ListN.{length, take, drop, get_or, length-drop, take-append-drop}
use lib.Seq.{take_at, take_all, drop-cons, length-take-le}
use borrow.Author.Tests.{le-ltb, ltb-true, ltb-false}
use Rattle.small.specs.Small.{padded, each, All}
use Rattle.small.proofs.All.{all_take, all_at}
use Rattle.small.proofs.Padded.{padded_take, padded_length, padded_used, padded_unused}
use Rattle.refusal.specs.Numbers.{bytes_left}
use Rattle.refusal.specs.Refusal.{none, Check, check_at, first_of, Passed}
use Rattle.std.specs.Prelude.{Result, Ok, Err}
use Rattle.refusal.specs.declared.Fault.{Fault}
use Rattle.refusal.proofs.Reasons.{fault_one}
use Rattle.refusal.proofs.Decided.{Decided, decided}
use Rattle.refusal.proofs.Exactly.{passes}
use Rattle.refusal.proofs.Joined.{passed_join, passed_parts, passed_none, Ranged, ranged_join, ranged_wider, ranged_numbered}
use Rattle.field.specs.Field.{byte_of, field_of, big}
use Rattle.field.specs.Bytes.{Bytes}
use Rattle.field.proofs.RoundTrip.{field_big}
use Rattle.field.proofs.Fields.{big_bytes, bytes_append, bytes_drop}
use Rattle.table.specs.Limits.{entries}
use Rattle.table.specs.Table.{zero_server, zero_table}
use Rattle.table.specs.Meaning.{SoundTable, Sized}
use Rattle.table.specs.declared.Server.{Server}
use Rattle.table.specs.declared.Table.{Table}
use Rattle.setup.specs.Layout.{server_bytes, record_bytes, bytes_of}
use Rattle.setup.specs.Read.{Reading, task_size, task_checks, tasks_checks, head_size, head_checks, server_size, server_checks, servers_checks, servers_of, servers_size}
use Rattle.setup.specs.Read.{start_checks, end_of, setup_checks, table_of, read_with, reading_by, read_of}
use Rattle.setup.specs.Records.{StartRight}
use Rattle.setup.proofs.Records.{start_right}
use Rattle.setup.proofs.Parsing.{some_number}
use Rattle.setup.proofs.Parsed.{field_bytes, Entry, servers_number, servers_read, servers_pass, servers_size_lem, servers_most, ServersPassed, servers_passed, servers_all_bytes}

abbrev pub record_checks : ℕ → ℕ → List ℕ → List Check
record_checks D W bs = servers_checks D W (byte_of 3 bs) 4 (drop 4 bs)

abbrev pub end_check : List ℕ → Check
end_check bs = check_at bytes_left (end_of bs) (ltb (end_of bs) (length bs))

-- WRITTEN, THEN READ

-- the servers' entries in use
abbrev rows : Table → List Server
rows t = take t.count t.servers

module _ (D W : ℕ) (t : Table) (z : Sized t) (h : SoundTable D W t) where
  rows_sound : All (Entry D W) (rows t)
  rows_sound =
      all_take (Entry D W) zero_server t.servers t.count (omega (arith, z.servers, h.count.high))
      λ i m. record { tasks = z.tasks i (omega (arith, h.count.high)); sound = h.used i m }

  rows_number : length (rows t) ≡ t.count
  rows_number = length-take-le t.count t.servers (omega (arith, z.servers, h.count.high))

  rows_filled : padded zero_server entries (rows t) ≡ t.servers
  rows_filled = rw z.servers at (padded_take zero_server t.count t.servers (omega (arith, z.servers, h.count.high)) h.unused)

  rows_bytes : record_bytes t ≡ each server_bytes (rows t) ++ []
  unfolding record_bytes
  rows_bytes = sym (append-nil (each server_bytes (rows t)))

  records_most : length (record_bytes t) ≤ 912
  unfolding record_bytes
  records_most = omega (arith, servers_most D W (rows t) rows_sound, rows_number, h.count.high)

  pub stated_length : field_of 2 (bytes_of t) ≡ length (bytes_of t)
  unfolding bytes_of
  stated_length = field_big 2 (4 + length (record_bytes t)) (omega (arith, records_most)) (drop 2 (bytes_of t)) ∙ omega arith

  pub most_bytes : length (bytes_of t) ≤ 916
  unfolding bytes_of
  most_bytes = omega (arith, records_most)

  pub all_bytes : Bytes (bytes_of t)
  unfolding bytes_of record_bytes
  all_bytes =
      let n = 4 + length (record_bytes t) in
      bytes_append (big 2 n) (1 ∷ t.count ∷ record_bytes t) (big_bytes 2 n) (omega arith, (omega (arith, h.count.high), servers_all_bytes D W (rows t) rows_sound))

  -- limits that fit into a field
  module _ (d : D < 256 ^ 4) (w : W < 256 ^ 4) where
    records_read : servers_of t.count (record_bytes t) ≡ rows t
    records_read = rw rows_bytes (subst (λ (n : ℕ). servers_of n (each server_bytes (rows t) ++ []) ≡ rows t) rows_number (servers_read D W d w (rows t) [] rows_sound))

    records_pass : (k : ℕ) → Passed (servers_checks D W t.count k (record_bytes t))
    records_pass k =
        rw rows_bytes (subst (λ (n : ℕ). Passed (servers_checks D W n k (each server_bytes (rows t) ++ []))) rows_number (servers_pass D W d w k (rows t) [] rows_sound))

    records_size : servers_size t.count (record_bytes t) ≡ length (record_bytes t)
    records_size =
        let bs = each server_bytes (rows t) ++ [] in
        rw rows_bytes (subst (λ (n : ℕ). servers_size n bs ≡ length bs) rows_number (servers_size_lem D W d w (rows t) [] rows_sound ∙ rw append-nil))

    pub table_read : table_of (bytes_of t) ≡ t
    unfolding table_of bytes_of
    table_read = λ i. record { servers = (ap (padded zero_server entries) records_read ∙ rows_filled) i; count = t.count }

    pub table_passes : Passed (setup_checks D W (bytes_of t))
    unfolding setup_checks bytes_of
    table_passes =
        let start = (start_right (bytes_of t)).1 record { whole = omega arith; stated = stated_length; version = refl; servers = h.count } in
        let end : Passed (end_check (bytes_of t) ∷ []) = (rw records_size (le-ltb (4 + length (record_bytes t)) (length (bytes_of t)) (omega arith)), tt) in
        let records = record_checks D W (bytes_of t) in
        passed_join (start_checks (bytes_of t)) (records ++ (end_check (bytes_of t) ∷ [])) start (passed_join records (end_check (bytes_of t) ∷ []) (records_pass 4) end)

-- READ, THEN WRITTEN

module _ (D W : ℕ) (bs : List ℕ) (p : Passed (setup_checks D W bs)) where
  pub parts : StartRight bs × ServersPassed D W (byte_of 3 bs) (drop 4 bs) × (end_of bs ≡ length bs)
  unfolding setup_checks
  parts =
      let (a, q) = passed_parts (start_checks bs) (record_checks D W bs ++ (end_check bs ∷ [])) p in
      let (b, c) = passed_parts (record_checks D W bs) (end_check bs ∷ []) q in
      let start = (start_right bs).0 a in
      let r = servers_passed D W (byte_of 3 bs) 4 (drop 4 bs) b in
      let e : length bs ≤ end_of bs = ltb-false (end_of bs) (length bs) c.0 in
      (start, r, omega (arith, length-drop 4 bs))

  abbrev read_rows : List Server
  read_rows = servers_of (byte_of 3 bs) (drop 4 bs)

  read_number : length read_rows ≡ byte_of 3 bs
  read_number = servers_number (byte_of 3 bs) (drop 4 bs)

  read_few : length read_rows ≤ entries
  read_few = omega (arith, read_number, parts.0.servers.high)

  read_entry : (i : ℕ) → i < length read_rows → Entry D W (get_or (padded zero_server entries read_rows) i zero_server)
  read_entry i m = rw (padded_used zero_server entries read_rows read_few i m) (all_at (Entry D W) zero_server read_rows parts.1.sound i m)

  pub table_sized : Sized (table_of bs)
  unfolding table_of
  table_sized = record { servers = padded_length zero_server entries read_rows read_few; tasks = λ i m. go i m (ltb i (length read_rows)) refl }
    where
      go : (i : ℕ) → i < entries → (b : Bool) → ltb i (length read_rows) ≡ b → length (get_or (padded zero_server entries read_rows) i zero_server).tasks ≡ entries
      go i m true e = (read_entry i (ltb-true i (length read_rows) e)).tasks
      go i m false e = rw (padded_unused zero_server entries read_rows read_few i (ltb-false i (length read_rows) e) m)

  pub table_in_range : SoundTable D W (table_of bs)
  unfolding table_of
  table_in_range = record {
    count = parts.0.servers;
    used = λ i m. (read_entry i (omega (arith, read_number))).sound;
    unused = λ i m x. padded_unused zero_server entries read_rows read_few i (omega (arith, read_number)) (omega (arith, padded_length zero_server entries read_rows read_few));
  }

  read_records : Bytes bs → record_bytes (table_of bs) ≡ drop 4 bs
  unfolding table_of record_bytes
  read_records b =
      let whole : length (drop 4 bs) ≤ servers_size (byte_of 3 bs) (drop 4 bs) = omega (arith, length-drop 4 bs, parts.2) in
      rw (take_at read_rows _ (byte_of 3 bs) read_number) (parts.1.bytes (bytes_drop 4 bs b) ∙ take_all _ (drop 4 bs) whole)

  pub table_bytes : Bytes bs → bytes_of (table_of bs) ≡ bs
  unfolding bytes_of table_of
  table_bytes b =
      let h = parts.0 in
      let n : 4 + length (drop 4 bs) ≡ field_of 2 bs = omega (arith, length-drop 4 bs) in
      let e : bytes_of (table_of bs) ≡ big 2 (4 + length (drop 4 bs)) ++ (1 ∷ byte_of 3 bs ∷ drop 4 bs) =
      ap (λ (l : List ℕ). big 2 (4 + length l) ++ (1 ∷ byte_of 3 bs ∷ l)) (read_records b) in
      let f : big 2 (4 + length (drop 4 bs)) ≡ take 2 bs = ap (big 2) n ∙ field_bytes 2 0 bs b (omega arith) in
      let g : drop 2 bs ≡ byte_of 2 bs ∷ byte_of 3 bs ∷ drop 4 bs = drop-cons bs 2 0 (omega arith) ∙ rw (drop-cons bs 3 0 (omega arith)) in
      e ∙ (λ i. f i ++ (sym h.version i ∷ byte_of 3 bs ∷ drop 4 bs)) ∙ rw (← g) (take-append-drop 2 bs)

-- THE ANSWER

task_ranged : (D W k : ℕ) (bs : List ℕ) → Ranged 5 12 (task_checks D W k bs)
unfolding task_checks
task_ranged D W k bs = omega arith

head_ranged : (D k : ℕ) (bs : List ℕ) → Ranged 5 12 (head_checks D k bs)
unfolding head_checks
head_ranged D k bs = omega arith

tasks_ranged : (D W n k : ℕ) (bs : List ℕ) → Ranged 5 12 (tasks_checks D W n k bs)
tasks_ranged D W zero k bs = tt
tasks_ranged D W (suc n) k bs = ranged_join 5 12 (task_checks D W k bs) _ (task_ranged D W k bs) (tasks_ranged D W n (k + task_size) (drop task_size bs))

server_ranged : (D W k : ℕ) (bs : List ℕ) → Ranged 5 12 (server_checks D W k bs)
unfolding server_checks
server_ranged D W k bs = ranged_join 5 12 (head_checks D k bs) _ (head_ranged D k bs) (tasks_ranged D W (byte_of 1 bs) (k + head_size) (drop head_size bs))

pub servers_ranged : (D W n k : ℕ) (bs : List ℕ) → Ranged 5 12 (servers_checks D W n k bs)
servers_ranged D W zero k bs = tt
servers_ranged D W (suc n) k bs =
    ranged_join 5 12 (server_checks D W k bs) _ (server_ranged D W k bs) (servers_ranged D W n (k + server_size bs) (drop (server_size bs) bs))

pub start_ranged : (bs : List ℕ) → Ranged 1 4 (start_checks bs)
unfolding start_checks
start_ranged bs = omega arith

module _ (D W : ℕ) (bs : List ℕ) where
  pub setup_ranged : Ranged 1 13 (setup_checks D W bs)
  unfolding setup_checks
  setup_ranged =
      let start = start_checks bs in
      let records = record_checks D W bs in
      let end : Ranged 1 13 (end_check bs ∷ []) = omega arith in
      ranged_join 1 13 start (records ++ (end_check bs ∷ [])) (ranged_wider 1 4 1 13 start (omega arith) (omega arith) (start_ranged bs))
      (ranged_join 1 13 records (end_check bs ∷ [])
      (ranged_wider 5 12 1 13 records (omega arith) (omega arith) (servers_ranged D W (byte_of 3 bs) 4 (drop 4 bs))) end)

  nothing_holds : (first_of (setup_checks D W bs)).number ≡ 0 ↔ Passed (setup_checks D W bs)
  nothing_holds = passes (setup_checks D W bs) (ranged_numbered 1 13 (setup_checks D W bs) (omega arith) setup_ranged)

  -- what the answer says of its refusal
  pub read_decided : let r = first_of (setup_checks D W bs) in Decided (λ (x : Reading). x.refusal) r (read_with none (table_of bs)) (read_with r zero_table) (read_of D W bs)
  unfolding read_of
  read_decided = decided (λ (x : Reading). x.refusal) (first_of (setup_checks D W bs)) _ _ (read_of D W bs) refl refl refl

  -- the refusal is that of the first test that holds
  pub read_refusal : (read_of D W bs).refusal ≡ first_of (setup_checks D W bs)
  read_refusal = read_decided.whole (λ e. passed_none (setup_checks D W bs) (nothing_holds.0 e))

  pub read_passed : (read_of D W bs).refusal.number ≡ 0 ↔ Passed (setup_checks D W bs)
  read_passed = rw read_refusal nothing_holds

  pub passed_read : Passed (setup_checks D W bs) → read_of D W bs ≡ read_with none (table_of bs)
  unfolding read_of
  passed_read p = rw (passed_none (setup_checks D W bs) p)

-- an outcome is told by its reading
pub reading_one : (a b : Result Table Fault) → reading_by a ≡ reading_by b → a ≡ b
reading_one (Ok t) (Ok u) e = ap Ok (ap (λ (x : Reading). x.table) e)
reading_one (Ok t) (Err f) e = absurd (some_number f.reason (ap (λ (x : Reading). x.refusal.number) (sym e)))
reading_one (Err f) (Ok t) e = absurd (some_number f.reason (ap (λ (x : Reading). x.refusal.number) e))
reading_one (Err f) (Err g) e = ap Err (fault_one f g (ap (λ (x : Reading). x.refusal) e))
