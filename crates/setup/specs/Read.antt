-- The setup reader: every test of document 01 in its order, each with its place; the first that holds is the refusal. "Setup: 1 to 4, then records in
-- file order, each whole (5) before its fields in file order, then 13." D is the longest period and offset, W the most work.
use Rattle.std.specs.Prelude.{Result, Ok, Err, Bool, not, List, [], ◌∷◌, ◌++◌, ℕ, zero, suc, ◌+◌, ◌*◌, leb, ltb, eqb, length, drop}
use Rattle.small.specs.Small.{pick, padded}
use Rattle.refusal.specs.Numbers.{setup_short, length_differs, setup_version, server_count, bytes_left}
use Rattle.refusal.specs.Numbers.{record_cut, server_kind, task_count, period_range, budget_range, release_kind, work_range, release_times}
use Rattle.refusal.specs.Refusal.{none, Check, check, check_at, first_of}
use Rattle.refusal.specs.Reason.{refusal_at}
use Rattle.refusal.specs.declared.Refusal.{Refusal}
use Rattle.refusal.specs.declared.Fault.{Fault}
use Rattle.field.specs.Field.{byte_of, field_of}
use Rattle.table.specs.Limits.{entries}
use Rattle.table.specs.Table.{ticks, served, zero_task, zero_server, zero_table}
use Rattle.table.specs.Sound.{rangeb, kindb}
use Rattle.table.specs.declared.Release.{Release}
use Rattle.table.specs.declared.Release.TheVariants.{OnArrival, Periodic}
use Rattle.table.specs.declared.Task.{Task}
use Rattle.table.specs.declared.Server.{Server}
use Rattle.table.specs.declared.Table.{Table}

-- the table that a setup gives, or why it gives none: then the table is all zero
pub record Reading : Type 0 where
  pub table : Table
  pub refusal : Refusal

-- A TASK'S RECORD, which begins at place k; bs are the bytes from there on

abbrev pub task_size : ℕ
task_size = 13

-- "T or O wrong for the release": on arrival both are 0; periodic, T is 1 to D and O at most D
abbrev pub period_wrong : ℕ → ℕ → ℕ → Bool
period_wrong D release T = not (pick (eqb release 0) (eqb T 0) (rangeb 1 D T))

abbrev pub offset_wrong : ℕ → ℕ → ℕ → Bool
offset_wrong D release O = not (pick (eqb release 0) (eqb O 0) (leb O D))

unfoldable pub task_checks : ℕ → ℕ → ℕ → List ℕ → List Check
task_checks D W k bs =
    check_at record_cut k (ltb (length bs) task_size)
    ∷ check_at release_kind k (ltb 1 (byte_of 0 bs))
    ∷ check_at work_range (k + 1) (not (rangeb 1 W (field_of 4 (drop 1 bs))))
    ∷ check_at release_times (k + 5) (period_wrong D (byte_of 0 bs) (field_of 4 (drop 5 bs)))
    ∷ check_at release_times (k + 9) (offset_wrong D (byte_of 0 bs) (field_of 4 (drop 9 bs)))
    ∷ []

abbrev pub release_of : ℕ → ℕ → ℕ → Release
release_of release T O = pick (eqb release 0) OnArrival (Periodic (ticks T) (ticks O))

unfoldable pub task_of : List ℕ → Task
task_of bs = record { work = served (field_of 4 (drop 1 bs)); release = release_of (byte_of 0 bs) (field_of 4 (drop 5 bs)) (field_of 4 (drop 9 bs)) }

-- n tasks' records, one behind the other
abbrev pub tasks_checks : ℕ → ℕ → ℕ → ℕ → List ℕ → List Check
tasks_checks D W zero k bs = []
tasks_checks D W (suc n) k bs = task_checks D W k bs ++ tasks_checks D W n (k + task_size) (drop task_size bs)

abbrev pub tasks_of : ℕ → List ℕ → List Task
tasks_of zero bs = []
tasks_of (suc n) bs = task_of bs ∷ tasks_of n (drop task_size bs)

-- A SERVER'S RECORD: its head, and its tasks' records behind it

abbrev pub head_size : ℕ
head_size = 10

unfoldable pub head_checks : ℕ → ℕ → List ℕ → List Check
head_checks D k bs =
    check_at record_cut k (ltb (length bs) head_size)
    ∷ check_at server_kind k (not (kindb (byte_of 0 bs)))
    ∷ check_at task_count (k + 1) (ltb entries (byte_of 1 bs))
    ∷ check_at period_range (k + 2) (not (rangeb 1 D (field_of 4 (drop 2 bs))))
    ∷ check_at budget_range (k + 6) (not (rangeb 1 (field_of 4 (drop 2 bs)) (field_of 4 (drop 6 bs))))
    ∷ []

-- how many bytes a server takes
abbrev pub server_size : List ℕ → ℕ
server_size bs = head_size + task_size * byte_of 1 bs

unfoldable pub server_checks : ℕ → ℕ → ℕ → List ℕ → List Check
server_checks D W k bs = head_checks D k bs ++ tasks_checks D W (byte_of 1 bs) (k + head_size) (drop head_size bs)

unfoldable pub server_of : List ℕ → Server
server_of bs = record {
  tasks = padded zero_task entries (tasks_of (byte_of 1 bs) (drop head_size bs));
  count = byte_of 1 bs;
  kind = byte_of 0 bs;
  period = ticks (field_of 4 (drop 2 bs));
  budget = served (field_of 4 (drop 6 bs));
}

-- n servers, one behind the other
abbrev pub servers_checks : ℕ → ℕ → ℕ → ℕ → List ℕ → List Check
servers_checks D W zero k bs = []
servers_checks D W (suc n) k bs = server_checks D W k bs ++ servers_checks D W n (k + server_size bs) (drop (server_size bs) bs)

abbrev pub servers_of : ℕ → List ℕ → List Server
servers_of zero bs = []
servers_of (suc n) bs = server_of bs ∷ servers_of n (drop (server_size bs) bs)

abbrev pub servers_size : ℕ → List ℕ → ℕ
servers_size zero bs = 0
servers_size (suc n) bs = server_size bs + servers_size n (drop (server_size bs) bs)

-- THE SETUP

unfoldable pub start_checks : List ℕ → List Check
start_checks bs =
    check setup_short (ltb (length bs) 4)
    ∷ check length_differs (not (eqb (field_of 2 bs) (length bs)))
    ∷ check_at setup_version 2 (not (eqb (byte_of 2 bs) 1))
    ∷ check_at server_count 3 (not (rangeb 1 entries (byte_of 3 bs)))
    ∷ []

-- the place behind the last record
abbrev pub end_of : List ℕ → ℕ
end_of bs = 4 + servers_size (byte_of 3 bs) (drop 4 bs)

unfoldable pub setup_checks : ℕ → ℕ → List ℕ → List Check
setup_checks D W bs =
    start_checks bs ++ (servers_checks D W (byte_of 3 bs) 4 (drop 4 bs) ++ (check_at bytes_left (end_of bs) (ltb (end_of bs) (length bs)) ∷ []))

unfoldable pub table_of : List ℕ → Table
table_of bs = record { servers = padded zero_server entries (servers_of (byte_of 3 bs) (drop 4 bs)); count = byte_of 3 bs }

abbrev pub read_with : Refusal → Table → Reading
read_with r t = record { table = t; refusal = r }

-- what a reader's outcome is as a reading: a refused one hands back a table of zeros
abbrev pub reading_by : Result Table Fault → Reading
reading_by (Ok t) = read_with none t
reading_by (Err f) = read_with (refusal_at f) zero_table

-- a refused reader hands back a table of zeros
unfoldable pub read_of : ℕ → ℕ → List ℕ → Reading
read_of D W bs =
    let r = first_of (setup_checks D W bs) in
    pick (eqb r.number 0) (read_with none (table_of bs)) (read_with r zero_table)
