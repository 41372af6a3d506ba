-- The lengths of a table's arrays, of which every table that the code holds is sure: a parameter's `.well_formed` is what it knows. Assumes nothing.
use mathlib.Core.Path.{◌≡◌}
use mathlib.Core.List.{List, [], ◌∷◌}
use Prim.Native.Nat.{ℕ, zero, suc, ◌<◌}
use native.Mathlib.Omega.{arith}
use lib.ListN.{length, get_or}
use mir.Val.{Val}
use denote.Array.{each}
use denote.Shadow.{shadow}
use denote.Struct.Declared.{row}
use Rattle.table.specs.Limits.{entries}
use Rattle.table.specs.Table.{ticks, served, zero_server}
use Rattle.table.specs.Meaning.{Sized}
use Rattle.table.specs.declared.Server.{Server}
use Rattle.table.specs.declared.Table.{Table}
use Rattle.table.specs.contracts.Server as server
use Rattle.table.specs.contracts.Table as table

-- what the code's read of a server would give past the end of the array
abbrev pub past_server : Server
past_server = record { tasks = []; count = 0; kind = 0; period = ticks 0; budget = served 0 }

-- what the code knows of an array of servers says that each has all its task entries
tasks_full : (ss : List Server) (us : List Val) (i : ℕ) (z : Server) → i < length ss → shadow (each (server.the_row).Denot (server.the_row).own_val ss us) → length (get_or ss i z).tasks ≡ entries
tasks_full [] us i z h k = absurd (omega arith)
tasks_full (s ∷ ss) [] i z h k = absurd k
tasks_full (s ∷ ss) (u ∷ us) zero z h k = k.0.1.1.0.1.0.1
tasks_full (s ∷ ss) (u ∷ us) (suc i) z h k = tasks_full ss us i z (omega arith) k.1

-- every table that the code holds has all its entries: a parameter's `.well_formed` is what it knows
pub table_sized : (t : Table) (vs : List Val) → shadow ((row table.the_type).own_val t vs) → Sized t
table_sized t vs k =
    let full : length t.servers ≡ entries = k.1.1.0.1.0.1 in
    record { servers = full; tasks = λ i h. tasks_full t.servers _ i zero_server (omega arith) k.1.1.0.1.1 }
