-- "A table alone is sound if its values are in range and its unused entries zero." D is the longest period and offset, W the most work.
use Rattle.std.specs.Prelude.{Bool, true, false, ℕ, leb, eqb}
use Rattle.small.specs.Small.{pick, both, usedb}
use Rattle.table.specs.Kind.{idling_kind, deferrable_kind, polling_kind}
use Rattle.table.specs.Limits.{entries}
use Rattle.table.specs.declared.Release.{Release}
use Rattle.table.specs.declared.Release.TheVariants.{OnArrival, Periodic}
use Rattle.table.specs.declared.Task.{Task}
use Rattle.table.specs.declared.Server.{Server}
use Rattle.table.specs.declared.Table.{Table}

abbrev pub rangeb : ℕ → ℕ → ℕ → Bool
rangeb least most x = both (leb least x) (leb x most)

-- "T is 1 to 1,000,000, O is 0 to 1,000,000"
abbrev pub releaseb : ℕ → Release → Bool
releaseb D OnArrival = true
releaseb D (Periodic p o) = both (rangeb 1 D p.0) (leb o.0 D)

-- "A task has work E (1 to 1,000,000 ticks)"
abbrev pub taskb : ℕ → ℕ → Task → Bool
taskb D W t = both (rangeb 1 W t.work.0) (releaseb D t.release)

abbrev pub arrivalb : Release → Bool
arrivalb OnArrival = true
arrivalb (Periodic p o) = false

abbrev pub zero_taskb : Task → Bool
zero_taskb t = both (eqb t.work.0 0) (arrivalb t.release)

abbrev pub tasksb : ℕ → ℕ → Server → Bool
tasksb D W s = usedb (taskb D W) zero_taskb s.tasks s.count

-- idling (kind 1), deferrable (kind 2) or polling (kind 3): "Setup code 6 now allows 3." (document 02, #101)
abbrev pub kindb : ℕ → Bool
kindb k = pick (eqb k idling_kind) true (pick (eqb k deferrable_kind) true (eqb k polling_kind))

-- "a kind, a period P (1 to 1,000,000), a budget C (1 to P) and 0 to 8 tasks"
abbrev pub serverb : ℕ → ℕ → Server → Bool
serverb D W s =
    both (kindb s.kind)
    (both (rangeb 1 D s.period.0)
    (both (rangeb 1 s.period.0 s.budget.0) (both (leb s.count entries) (tasksb D W s))))

abbrev pub zero_serverb : Server → Bool
zero_serverb s =
    both (eqb s.kind 0)
    (both (eqb s.period.0 0)
    (both (eqb s.budget.0 0) (both (eqb s.count 0) (usedb zero_taskb zero_taskb s.tasks 0))))

-- "A setup has 1 to 8 servers"
unfoldable pub tableb : ℕ → ℕ → Table → Bool
tableb D W t = both (rangeb 1 entries t.count) (usedb (serverb D W) zero_serverb t.servers t.count)
