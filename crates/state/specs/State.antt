-- The scheduler's state: for each server entry its tasks' loads, its arrival queue and its budget; and one replenishment queue for all servers.
-- "Event ids are the places in the table."
use Rattle.std.specs.Prelude.{[], ℕ, get_or, replicate}
use Rattle.queue.specs.Row.{queue_of}
use Rattle.table.specs.Limits.{entries}
use Rattle.table.specs.Table.{served, zero_task, zero_server, period_of}
use Rattle.table.specs.declared.Task.{Task}
use Rattle.table.specs.declared.Server.{Server}
use Rattle.state.specs.declared.Load.{Load}
use Rattle.state.specs.declared.Entry.{Entry}
use Rattle.state.specs.declared.State.{State}

-- the most pending work of a task, in served ticks
abbrev pub most_pending : ℕ
most_pending = 1000000

-- where the lost count stops
abbrev pub most_lost : ℕ
most_lost = 65535

-- a task's pending work and its lost count
abbrev pub load : ℕ → ℕ → Load
load pending lost = record { pending = served pending; lost = lost }

abbrev pub zero_load : Load
zero_load = load 0 0

abbrev pub zero_entry : Entry
zero_entry = record { loads = replicate entries zero_load; arrivals = queue_of []; budget = served 0 }

-- the entry with another budget
abbrev pub with_budget : ℕ → Entry → Entry
with_budget n e = record { loads = e.loads; arrivals = e.arrivals; budget = served n }

-- the server and the entry at a place of the table, a server's task at a place, and the load of task j of server i

abbrev pub server_at : State → ℕ → Server
server_at s i = get_or s.table.servers i zero_server

abbrev pub entry_at : State → ℕ → Entry
entry_at s i = get_or s.entries i zero_entry

abbrev pub task_at : Server → ℕ → Task
task_at s j = get_or s.tasks j zero_task

abbrev pub load_at : State → ℕ → ℕ → Load
load_at s i j = get_or (entry_at s i).loads j zero_load

-- P and C of the server at a place, and T of its task at a place, 0 where the task is not periodic

abbrev pub period_at : State → ℕ → ℕ
period_at s i = (server_at s i).period.0

abbrev pub full_at : State → ℕ → ℕ
full_at s i = (server_at s i).budget.0

abbrev pub task_delay : Server → ℕ → ℕ
task_delay s id = period_of (task_at s id).release
