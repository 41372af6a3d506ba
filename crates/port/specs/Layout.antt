-- How many words of 32 bits each thing takes. include/ribascenzo.h declares the same.
use Rattle.std.specs.Prelude.{ℕ, ◌+◌, ◌*◌}
use Rattle.queue.specs.Limits.{cell_count}
use Rattle.table.specs.Limits.{entries}

-- what a word can hold
abbrev pub word_limit : ℕ
word_limit = 4294967296

abbrev pub queue_size : ℕ
queue_size = 1 + cell_count

abbrev pub load_size : ℕ
load_size = 2

abbrev pub entry_size : ℕ
entry_size = 1 + load_size * entries + queue_size

abbrev pub task_size : ℕ
task_size = 4

abbrev pub server_size : ℕ
server_size = 4 + task_size * entries

abbrev pub table_size : ℕ
table_size = 1 + server_size * entries

abbrev pub state_size : ℕ
state_size = table_size + queue_size + entry_size * entries
