-- The bytes of a table. "Setup: total length (2 bytes), version 1, number of servers, then each server: kind, number of tasks, P (4), C (4), then its
-- tasks: release (0 on arrival, 1 periodic), E (4), T (4), O (4)." All numbers big-endian.
use Rattle.std.specs.Prelude.{List, ◌∷◌, ◌++◌, ℕ, ◌+◌, length, take}
use Rattle.small.specs.Small.{each}
use Rattle.field.specs.Field.{big}
use Rattle.table.specs.Table.{release_number, period_of, offset_of}
use Rattle.table.specs.declared.Task.{Task}
use Rattle.table.specs.declared.Server.{Server}
use Rattle.table.specs.declared.Table.{Table}

unfoldable pub task_bytes : Task → List ℕ
task_bytes t =
    release_number t.release ∷ (big 4 t.work.0 ++ (big 4 (period_of t.release) ++ big 4 (offset_of t.release)))

unfoldable pub head_bytes : Server → List ℕ
head_bytes s = s.kind ∷ s.count ∷ (big 4 s.period.0 ++ big 4 s.budget.0)

unfoldable pub server_bytes : Server → List ℕ
server_bytes s = head_bytes s ++ each task_bytes (take s.count s.tasks)

unfoldable pub record_bytes : Table → List ℕ
record_bytes t = each server_bytes (take t.count t.servers)

-- THE BYTES OF A TABLE
unfoldable pub bytes_of : Table → List ℕ
bytes_of t = big 2 (4 + length (record_bytes t)) ++ (1 ∷ t.count ∷ record_bytes t)
