-- The records of a setup by their places in the file, in file order, and the document's words for what is right in each. That the reader's checks are
-- those of these records in this order is `records_checks`, and that they say these words `record_right` (both proofs/Records.antt). D is the longest
-- period and offset, W the most work.
use Rattle.std.specs.Prelude.{◌≡◌, List, [], ◌∷◌, ◌++◌, ◌⊎◌, ℕ, zero, suc, ◌+◌, ◌*◌, ◌≤◌, length, drop}
use Rattle.refusal.specs.Refusal.{refused, Check}
use Rattle.field.specs.Field.{byte_of, field_of}
use Rattle.table.specs.Limits.{entries}
use Rattle.table.specs.Meaning.{Within, KnownKind}
use Rattle.setup.specs.Read.{task_size, task_checks, head_size, head_checks, read_of}

-- THE START: "total length (2 bytes), version 1, number of servers"

pub record StartRight (bs : List ℕ) : Type 0 where
  pub whole : 4 ≤ length bs
  pub stated : field_of 2 bs ≡ length bs
  pub version : byte_of 2 bs ≡ 1
  pub servers : Within 1 entries (byte_of 3 bs)

-- THE RECORDS

-- a server's head or a task, by the place of its first byte
pub data Rec : Type 0 where
  head : ℕ → Rec
  task : ℕ → Rec

-- n tasks from place k on
abbrev pub task_records : ℕ → ℕ → List Rec
task_records zero k = []
task_records (suc n) k = task k ∷ task_records n (k + task_size)

-- n servers from place k on: behind each head stand as many tasks as its second byte says
abbrev pub server_records : ℕ → ℕ → List ℕ → List Rec
server_records zero k bs = []
server_records (suc n) k bs =
    head k ∷ (task_records (byte_of (k + 1) bs) (k + head_size) ++ server_records n (k + (head_size + task_size * byte_of (k + 1) bs)) bs)

-- the setup's: as many servers as the byte at 3 says, from place 4 on
abbrev pub records_of : List ℕ → List Rec
records_of bs = server_records (byte_of 3 bs) 4 bs

-- "each whole (5) before its fields in file order"
abbrev pub checks_of : ℕ → ℕ → List ℕ → Rec → List Check
checks_of D W bs (head k) = head_checks D k (drop k bs)
checks_of D W bs (task k) = task_checks D W k (drop k bs)

-- WHAT IS RIGHT IN A RECORD at place k

-- the number in the four bytes at k
abbrev pub four_at : ℕ → List ℕ → ℕ
four_at k bs = field_of 4 (drop k bs)

-- "each server: kind, number of tasks, P (4), C (4)"
module _ (bs : List ℕ) (k : ℕ) where
  abbrev pub HeadWhole : Type 0
  HeadWhole = k + head_size ≤ length bs

  -- "Setup code 6 now allows 3." (document 02, #101)
  abbrev pub KindKnown : Type 0
  KindKnown = KnownKind (byte_of k bs)

  abbrev pub TasksFew : Type 0
  TasksFew = byte_of (k + 1) bs ≤ entries

  abbrev pub PFits : ℕ → Type 0
  PFits D = Within 1 D (four_at (k + 2) bs)

  abbrev pub CFits : Type 0
  CFits = Within 1 (four_at (k + 2) bs) (four_at (k + 6) bs)

-- "its tasks: release (0 on arrival, 1 periodic), E (4), T (4), O (4). On arrival, T and O must be 0."
module _ (bs : List ℕ) (k : ℕ) where
  abbrev pub TaskWhole : Type 0
  TaskWhole = k + task_size ≤ length bs

  abbrev pub ReleaseKnown : Type 0
  ReleaseKnown = (byte_of k bs ≡ 0) ⊎ (byte_of k bs ≡ 1)

  abbrev pub EFits : ℕ → Type 0
  EFits W = Within 1 W (four_at (k + 1) bs)

  abbrev pub TFits : ℕ → Type 0
  TFits D = ((byte_of k bs ≡ 0) × (four_at (k + 5) bs ≡ 0)) ⊎ ((byte_of k bs ≡ 1) × Within 1 D (four_at (k + 5) bs))

  abbrev pub OFits : ℕ → Type 0
  OFits D = ((byte_of k bs ≡ 0) × (four_at (k + 9) bs ≡ 0)) ⊎ ((byte_of k bs ≡ 1) × (four_at (k + 9) bs ≤ D))

-- a record with nothing wrong in it
abbrev pub RecordRight : ℕ → ℕ → List ℕ → Rec → Type 0
RecordRight D W bs (head k) = HeadWhole bs k × KindKnown bs k × TasksFew bs k × PFits bs k D × CFits bs k
RecordRight D W bs (task k) = TaskWhole bs k × ReleaseKnown bs k × EFits bs k W × TFits bs k D × OFits bs k D

abbrev pub AllRight : ℕ → ℕ → List ℕ → List Rec → Type 0
AllRight D W bs [] = Unit
AllRight D W bs (r ∷ rs) = RecordRight D W bs r × AllRight D W bs rs

-- THE READER COMES TO A RECORD: the start is right, and so is every record before it
pub record Reached (D W : ℕ) (bs : List ℕ) (r : Rec) : Type 0 where
  pub start : StartRight bs
  pub before : List Rec
  pub after : List Rec
  pub here : records_of bs ≡ before ++ (r ∷ after)
  pub right : AllRight D W bs before

-- a server's head, or a task, that the reader comes to and of whose place P holds
abbrev pub AtHead : ℕ → ℕ → List ℕ → (ℕ → Type 0) → Type 0
AtHead D W bs P = (j : ℕ) × Reached D W bs (head j) × P j

abbrev pub AtTask : ℕ → ℕ → List ℕ → (ℕ → Type 0) → Type 0
AtTask D W bs P = (j : ℕ) × Reached D W bs (task j) × P j

-- THE READER ANSWERS number n with place k
abbrev pub Refused : ℕ → ℕ → List ℕ → ℕ → ℕ → Type 0
Refused D W bs n k = (read_of D W bs).refusal ≡ refused n k
