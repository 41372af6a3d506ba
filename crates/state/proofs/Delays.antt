-- What a sound table says of each of its servers, in use or not: where an event has a reach, its delay is 1 to that. No array's length is assumed: what is past
-- the table's count is zero, and so has no event. Assumes nothing.
use mathlib.Core.Path.{◌≡◌, refl}
use mathlib.Core.Bool.{Bool, true, false}
use mathlib.Core.List.{List, [], ◌∷◌}
use Prim.Native.Nat.{ℕ, zero, suc, ◌≤◌, ◌<◌}
use native.Mathlib.Omega.{arith}
use lib.Dec.{leb, eqb}
use lib.ListN.{get_or}
use borrow.Author.Tests.{leb-true, eqb-true}
use Rattle.small.specs.Small.{pick, usedb}
use Rattle.small.proofs.Tests.{both_left, both_right, contrary}
use Rattle.small.proofs.Used.{in_use}
use Rattle.queue.specs.Limits.{longest}
use Rattle.table.specs.Limits.{most_work, entries}
use Rattle.table.specs.Table.{period_of, zero_task, zero_server, period_in}
use Rattle.table.specs.Sound.{rangeb, releaseb, taskb, arrivalb, zero_taskb, serverb, zero_serverb, tableb}
use Rattle.table.specs.declared.Release.{Release}
use Rattle.table.specs.declared.Release.TheVariants.{OnArrival, Periodic}
use Rattle.table.specs.declared.Task.{Task}
use Rattle.table.specs.declared.Server.{Server}
use Rattle.table.specs.declared.Table.{Table}
use Rattle.table.proofs.SoundLaws.{range_within}
use Rattle.state.specs.State.{task_at, task_delay}
use Rattle.state.specs.Sound.{release_reach, task_reaches, server_reaches}
use Rattle.state.proofs.Stated.{ServerStated, server_stated, zero_stated, server_reach, task_reach}

module _ (delay : ℕ → ℕ) (reach : List ℕ) where
  -- where an id has a reach, it is a place below 8, and its delay is 1 to its reach
  pub record Delayed (j : ℕ) : Type 0 where
    pub place : j < entries
    pub low : 1 ≤ delay j
    pub high : delay j ≤ get_or reach j 0
    pub near : get_or reach j 0 ≤ longest

-- ONE SERVER

-- a release that has a reach: its period is 1 to that
release_reach_lem : (r : Release) → 1 ≤ release_reach r → releaseb longest r ≡ true → (1 ≤ period_of r) × ((period_of r ≤ release_reach r) × (release_reach r ≤ longest))
release_reach_lem OnArrival h u = absurd (omega arith)
release_reach_lem (Periodic T O) h u =
    let w = (range_within 1 longest T.0).0 (both_left _ _ u) in
    let o : O.0 ≤ longest = leb-true O.0 longest (both_right (rangeb 1 longest T.0) _ u) in
    (w.low, go (leb T.0 O.0) refl o w.high)
  where
    go : (b : Bool) → leb T.0 O.0 ≡ b → O.0 ≤ longest → T.0 ≤ longest → (T.0 ≤ pick b O.0 T.0) × (pick b O.0 T.0 ≤ longest)
    go true p o t = (leb-true T.0 O.0 p, o)
    go false p o t = (omega arith, t)

zero_reach : (t : Task) → zero_taskb t ≡ true → release_reach t.release ≡ 0
zero_reach t h = go t.release (both_right (eqb t.work.0 0) _ h)
  where
    go : (r : Release) → arrivalb r ≡ true → release_reach r ≡ 0
    go OnArrival a = refl
    go (Periodic T O) a = contrary a refl

module _ (s : Server) (k : ServerStated s) where
  -- a task that has arrivals of its own is in use, and its period is in reach
  pub task_delayed : (j : ℕ) → 1 ≤ get_or (task_reaches s.tasks) j 0 → (j < s.count) × Delayed (task_delay s) (task_reaches s.tasks) j
  task_delayed j h =
      let e = task_reach s.tasks j in
      let u = in_use (taskb longest most_work) zero_taskb zero_task refl s.tasks s.count j k.tasks (λ z. omega (arith, zero_reach (task_at s j) z)) in
      let r = release_reach_lem (task_at s j).release (omega arith) (both_right (rangeb 1 most_work (task_at s j).work.0) _ u.1) in
      (u.0, record { place = omega (arith, u.0, k.count); low = r.0; high = omega (arith, r.1.0); near = omega (arith, r.1.1) })

-- ALL SERVERS

-- what is known of every server of a table, in use or not
abbrev pub Every : List Server → Type 0
Every [] = Unit
Every (s ∷ ss) = ServerStated s × Every ss

every : (ss : List Server) (n : ℕ) → usedb (serverb longest most_work) zero_serverb ss n ≡ true → Every ss
every [] n h = tt
every (s ∷ ss) zero h = (zero_stated s (both_left _ _ h), every ss zero (both_right (zero_serverb s) _ h))
every (s ∷ ss) (suc n) h = (server_stated s (both_left _ _ h), every ss n (both_right (serverb longest most_work s) _ h))

-- THE TABLE

module _ (t : Table) (h : tableb longest most_work t ≡ true) where
  pub table_used : usedb (serverb longest most_work) zero_serverb t.servers t.count ≡ true
  unfolding tableb
  table_used = both_right (rangeb 1 entries t.count) _ h

  pub table_every : Every t.servers
  table_every = every t.servers t.count table_used

  pub table_few : t.count ≤ entries
  unfolding tableb
  table_few = ((range_within 1 entries t.count).0 (both_left _ _ h)).high

  -- a server that has replenishments is in use
  pub server_delayed : (j : ℕ) → 1 ≤ get_or (server_reaches t.servers) j 0 → Delayed (period_in t) (server_reaches t.servers) j
  server_delayed j r =
      let s = get_or t.servers j zero_server in
      let e = server_reach t.servers j in
      let zero : zero_serverb s ≡ true → ⊥ = λ z. omega (arith, eqb-true s.period.0 0 (both_left _ _ (both_right (eqb s.kind 0) _ z))) in
      let u = in_use (serverb longest most_work) zero_serverb zero_server refl t.servers t.count j table_used zero in
      record { place = omega (arith, u.0, table_few); low = omega arith; high = omega arith; near = omega (arith, (server_stated s u.1).period) }
