-- What the private functions give. No promise is stated by these: they stand between the code's loops and the definitions.
use Rattle.std.specs.Prelude.{refl, List, [], ◌∷◌, ◌++◌, ℕ, zero, suc, ◌+◌, drop, replicate}
use Rattle.refusal.specs.Numbers.{release_times}
use Rattle.refusal.specs.Refusal.{Check, check_at}
use Rattle.refusal.proofs.Exactly.{Numbered, numbered, numbered_append}
use Rattle.field.specs.Field.{byte_of, field_of}
use Rattle.table.specs.Limits.{entries}
use Rattle.table.specs.Table.{ticks, served, zero_task}
use Rattle.table.specs.declared.Server.{Server}
use Rattle.setup.specs.Read.{period_wrong, offset_wrong, task_size, task_checks, tasks_checks, head_size, head_checks, server_checks, start_checks}

-- a server's head, read with no task
abbrev pub head_of : List ℕ → Server
head_of bs = record {
  tasks = replicate entries zero_task;
  count = byte_of 1 bs;
  kind = byte_of 0 bs;
  period = ticks (field_of 4 (drop 2 bs));
  budget = served (field_of 4 (drop 6 bs));
}

-- the tests of a task's T and O, which stand at a place, for a release
unfoldable pub times_checks : ℕ → ℕ → ℕ → List ℕ → List Check
times_checks D release k bs =
    check_at release_times k (period_wrong D release (field_of 4 bs)) ∷ check_at release_times (k + 4) (offset_wrong D release (field_of 4 (drop 4 bs))) ∷ []

-- N RECORDS OF ONE KIND, one behind the other, where one is checked at a place, read from its bytes and takes so many of them

abbrev pub all_checks : (ℕ → List ℕ → List Check) → (List ℕ → ℕ) → ℕ → ℕ → List ℕ → List Check
all_checks checks size zero k bs = []
all_checks checks size (suc n) k bs = checks k bs ++ all_checks checks size n (k + size bs) (drop (size bs) bs)

abbrev pub all_given : {A : Type 0} → (List ℕ → A) → (List ℕ → ℕ) → ℕ → List ℕ → List A
all_given gives size zero bs = []
all_given gives size (suc n) bs = gives bs ∷ all_given gives size n (drop (size bs) bs)

abbrev pub all_size : (List ℕ → ℕ) → ℕ → List ℕ → ℕ
all_size size zero bs = 0
all_size size (suc n) bs = size bs + all_size size n (drop (size bs) bs)

-- THE TWO KINDS OF RECORD: each refusal has a number

pub task_numbered : (D W k : ℕ) (bs : List ℕ) → Numbered (task_checks D W k bs)
unfolding task_checks
task_numbered D W k bs = numbered (task_checks D W k bs) refl

pub tasks_numbered : (D W n k : ℕ) (bs : List ℕ) → Numbered (tasks_checks D W n k bs)
tasks_numbered D W zero k bs = tt
tasks_numbered D W (suc n) k bs = numbered_append (task_checks D W k bs) _ (task_numbered D W k bs) (tasks_numbered D W n (k + task_size) (drop task_size bs))

pub head_numbered : (D k : ℕ) (bs : List ℕ) → Numbered (head_checks D k bs)
unfolding head_checks
head_numbered D k bs = numbered (head_checks D k bs) refl

pub server_numbered : (D W k : ℕ) (bs : List ℕ) → Numbered (server_checks D W k bs)
unfolding server_checks
server_numbered D W k bs =
    numbered_append (head_checks D k bs) _ (head_numbered D k bs) (tasks_numbered D W (byte_of 1 bs) (k + head_size) (drop head_size bs))

pub start_numbered : (bs : List ℕ) → Numbered (start_checks bs)
unfolding start_checks
start_numbered bs = numbered (start_checks bs) refl
