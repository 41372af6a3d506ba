-- "A state is sound if: table values are in range; unused entries are zero; budgets are at most C; pending work is at most 1,000,000, lost counts at most
-- 65,535; queues are each sound alone and hold exactly the replenishments and the periodic tasks' arrivals, each once; a replenishment is 1 to P away, an
-- arrival 1 to the larger of T and O." And: "In a sound state a polling server with no pending work has budget 0." (document 02, #101)
use Rattle.std.specs.Prelude.{Bool, true, List, [], ◌∷◌, ℕ, leb, eqb}
use Rattle.small.specs.Small.{pick, both, usedb}
use Rattle.queue.specs.Limits.{max_gap, longest}
use Rattle.queue.specs.Holds.{holdsb}
use Rattle.table.specs.Limits.{most_work}
use Rattle.table.specs.Sound.{tableb}
use Rattle.table.specs.declared.Release.{Release}
use Rattle.table.specs.declared.Release.TheVariants.{OnArrival, Periodic}
use Rattle.table.specs.declared.Task.{Task}
use Rattle.table.specs.declared.Server.{Server}
use Rattle.state.specs.State.{most_pending, most_lost}
use Rattle.state.specs.Polling.{lapsesb}
use Rattle.state.specs.declared.Load.{Load}
use Rattle.state.specs.declared.Entry.{Entry}
use Rattle.state.specs.declared.State.{State}

-- how far an event may be away: 0 where there is to be none
abbrev pub release_reach : Release → ℕ
release_reach OnArrival = 0
release_reach (Periodic T O) = pick (leb T.0 O.0) O.0 T.0

abbrev pub task_reach : Task → ℕ
task_reach t = release_reach t.release

abbrev pub server_reach : Server → ℕ
server_reach s = s.period.0

-- "an arrival 1 to the larger of T and O" away
abbrev pub task_reaches : List Task → List ℕ
task_reaches [] = []
task_reaches (t ∷ ts) = release_reach t.release ∷ task_reaches ts

-- "a replenishment is 1 to P away"
abbrev pub server_reaches : List Server → List ℕ
server_reaches [] = []
server_reaches (s ∷ ss) = s.period.0 ∷ server_reaches ss

abbrev pub loadb : Load → Bool
loadb l = both (leb l.pending.0 most_pending) (leb l.lost most_lost)

abbrev pub zero_loadb : Load → Bool
zero_loadb l = both (eqb l.pending.0 0) (eqb l.lost 0)

-- one server's entry
unfoldable pub entryb : Server → Entry → Bool
entryb s e =
    both (leb e.budget.0 s.budget.0)
    (both (usedb loadb zero_loadb e.loads s.count) (holdsb max_gap longest (task_reaches s.tasks) e.arrivals))

-- "a polling server with no pending work has budget 0"
abbrev pub spentb : Server → Entry → Bool
spentb s e = pick (lapsesb s.kind e) (eqb e.budget.0 0) true

-- a test of each entry with its server
abbrev pub eachb : (Server → Entry → Bool) → List Server → List Entry → Bool
eachb p [] es = true
eachb p (s ∷ ss) [] = true
eachb p (s ∷ ss) (e ∷ es) = both (p s e) (eachb p ss es)

-- for an unused entry, whose server is zero, this says that it is zero too
abbrev pub entriesb : List Server → List Entry → Bool
entriesb ss es = eachb entryb ss es

abbrev pub all_spentb : List Server → List Entry → Bool
all_spentb ss es = eachb spentb ss es

unfoldable pub stateb : State → Bool
stateb s =
    both (tableb longest most_work s.table)
    (both (entriesb s.table.servers s.entries)
    (both (holdsb max_gap longest (server_reaches s.table.servers) s.refills) (all_spentb s.table.servers s.entries)))
