-- The table's parts: what each case of a release is in the document's numbers, and what an unused entry holds.
use Rattle.std.specs.Prelude.{ℕ, replicate, get_or}
use Rattle.queue.specs.declared.Distance.{Distance}
use Rattle.table.specs.Limits.{entries}
use Rattle.table.specs.declared.Served.{Served}
use Rattle.table.specs.declared.Release.{Release}
use Rattle.table.specs.declared.Release.TheVariants.{OnArrival, Periodic}
use Rattle.table.specs.declared.Task.{Task}
use Rattle.table.specs.declared.Server.{Server}
use Rattle.table.specs.declared.Table.{Table}

abbrev pub ticks : ℕ → Distance
ticks n = record { 0 = n }

abbrev pub served : ℕ → Served
served n = record { 0 = n }

-- "release (0 on arrival, 1 periodic)"
abbrev pub release_number : Release → ℕ
release_number OnArrival = 0
release_number (Periodic p o) = 1

-- "On arrival, T and O must be 0"
abbrev pub period_of : Release → ℕ
period_of OnArrival = 0
period_of (Periodic p o) = p.0

abbrev pub offset_of : Release → ℕ
offset_of OnArrival = 0
offset_of (Periodic p o) = o.0

-- "unused entries are zero" (the zero of a release is on arrival)
abbrev pub zero_task : Task
zero_task = record { work = served 0; release = OnArrival }

abbrev pub zero_server : Server
zero_server = record { tasks = replicate entries zero_task; count = 0; kind = 0; period = ticks 0; budget = served 0 }

abbrev pub zero_table : Table
zero_table = record { servers = replicate entries zero_server; count = 0 }

-- server i's kind, its period P and its budget C; past the end those of an unused entry, 0

abbrev pub kind_in : Table → ℕ → ℕ
kind_in t i = (get_or t.servers i zero_server).kind

abbrev pub period_in : Table → ℕ → ℕ
period_in t i = (get_or t.servers i zero_server).period.0

abbrev pub budget_in : Table → ℕ → ℕ
budget_in t i = (get_or t.servers i zero_server).budget.0
