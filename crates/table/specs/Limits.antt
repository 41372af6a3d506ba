-- The limits that belong to the table, named once for the definitions; `impl Table` names them once for the code.
use Rattle.std.specs.Prelude.{ℕ}

-- "eight server entries, each with eight task entries"
abbrev pub entries : ℕ
entries = 8

-- the most work E of a task, in served ticks
abbrev pub most_work : ℕ
most_work = 1000000
