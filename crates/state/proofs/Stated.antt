-- What the soundness of a state says of its parts, each by its place in the table. Assumes nothing.
use mathlib.Core.Path.{◌≡◌, refl, ◌∙◌}
use mathlib.Core.Bool.{Bool, true, false}
use mathlib.Core.List.{List, [], ◌∷◌}
use mathlib.Core.Logic.{◌↔◌}
use Prim.Native.Nat.{ℕ, zero, suc, ◌≤◌, ◌<◌}
use native.Mathlib.Omega.{arith}
use lib.Dec.{leb, ltb, eqb}
use lib.ListN.{length, get_or}
use borrow.Author.Tests.{leb-true, ltb-true, ltb-false, eqb-true, le-leb}
use Rattle.small.specs.Small.{pick, both, alter, usedb}
use Rattle.small.proofs.Tests.{both_left, both_right}
use Rattle.small.proofs.Used.{used_none, each_from}
use Rattle.queue.specs.Limits.{max_gap, longest}
use Rattle.queue.specs.Row.{Event, events_of}
use Rattle.queue.specs.Sound.{soundb}
use Rattle.queue.specs.Holds.{withinb, presentb, holdsb}
use Rattle.queue.specs.declared.Queue.{Queue}
use Rattle.table.specs.Limits.{most_work, entries}
use Rattle.table.specs.Table.{zero_task, zero_server}
use Rattle.table.specs.Sound.{rangeb, kindb, taskb, zero_taskb, tasksb, serverb, zero_serverb, tableb}
use Rattle.table.specs.declared.Task.{Task}
use Rattle.table.specs.declared.Server.{Server}
use Rattle.table.specs.declared.Table.{Table}
use Rattle.state.specs.State.{most_pending, server_at, entry_at, zero_load, zero_entry}
use Rattle.state.specs.Sound.{release_reach, task_reaches, server_reaches, loadb, zero_loadb, entryb, eachb, entriesb, all_spentb, stateb}
use Rattle.state.specs.Moves.{AllOf, PendingBelow}
use Rattle.state.specs.declared.Load.{Load}
use Rattle.state.specs.declared.Entry.{Entry}
use Rattle.state.specs.declared.State.{State}

-- A QUEUE THAT HOLDS WHAT IT IS TO HOLD

pub record Held (reach : List ℕ) (q : Queue) : Type 0 where
  pub sound : soundb max_gap longest q ≡ true
  pub within : withinb reach (events_of q) ≡ true
  pub present : presentb reach 0 (events_of q) ≡ true

pub held : (reach : List ℕ) (q : Queue) → holdsb max_gap longest reach q ≡ true ↔ Held reach q
unfolding holdsb
held reach q = (
  λ h.
      let r = both_right (soundb max_gap longest q) _ h in
      record { sound = both_left _ _ h; within = both_left _ _ r; present = both_right (withinb reach (events_of q)) _ r },
  λ h. rw (h.sound, h.within) h.present,
)

-- each of its events is 1 to its reach away
pub within_each : (P : ℕ → Type 0) (reach : List ℕ) (es : List Event) → ((id at : ℕ) → 0 < at → at ≤ get_or reach id 0 → P id) → withinb reach es ≡ true → AllOf P es
within_each P reach [] f h = tt
within_each P reach (e ∷ es) f h =
    let here : both (ltb 0 e.at) (leb e.at (get_or reach e.id 0)) ≡ true = both_left _ _ h in (
      f e.id e.at (ltb-true 0 e.at (both_left _ _ here)) (leb-true e.at (get_or reach e.id 0) (both_right (ltb 0 e.at) _ here)),
      within_each P reach es f (both_right (both (ltb 0 e.at) (leb e.at (get_or reach e.id 0))) _ h),
    )

-- the reach of a place; 0 past the end
pub server_reach : (ss : List Server) (i : ℕ) → get_or (server_reaches ss) i 0 ≡ (get_or ss i zero_server).period.0
server_reach [] i = refl
server_reach (s ∷ ss) zero = refl
server_reach (s ∷ ss) (suc i) = server_reach ss i

pub task_reach : (ts : List Task) (j : ℕ) → get_or (task_reaches ts) j 0 ≡ release_reach (get_or ts j zero_task).release
task_reach [] j = refl
task_reach (t ∷ ts) zero = refl
task_reach (t ∷ ts) (suc j) = task_reach ts j

-- ONE SERVER'S ENTRY

pub record EntryStated (s : Server) (e : Entry) : Type 0 where
  pub budget : e.budget.0 ≤ s.budget.0
  pub loads : usedb loadb zero_loadb e.loads s.count ≡ true
  pub arrivals : holdsb max_gap longest (task_reaches s.tasks) e.arrivals ≡ true

pub entry_stated : (s : Server) (e : Entry) → entryb s e ≡ true ↔ EntryStated s e
unfolding entryb
entry_stated s e = (
  λ h.
      let r = both_right (leb e.budget.0 s.budget.0) _ h in
      record {
        budget = leb-true e.budget.0 s.budget.0 (both_left _ _ h);
        loads = both_left _ _ r;
        arrivals = both_right (usedb loadb zero_loadb e.loads s.count) _ r;
      },
  λ h. rw (le-leb e.budget.0 s.budget.0 h.budget, h.loads) h.arrivals,
)

-- pending work is in range in every load, used or not
load_below : (used : Bool) (l : Load) → pick used (loadb l) (zero_loadb l) ≡ true → l.pending.0 ≤ most_pending
load_below true l h = leb-true l.pending.0 most_pending (both_left _ _ h)
load_below false l h = omega (arith, eqb-true l.pending.0 0 (both_left _ _ h))

pub loads_below : (ls : List Load) (n : ℕ) → usedb loadb zero_loadb ls n ≡ true → PendingBelow ls
loads_below [] n h = tt
loads_below (l ∷ ls) zero h = (load_below false l (both_left _ _ h), loads_below ls zero (both_right (zero_loadb l) _ h))
loads_below (l ∷ ls) (suc n) h = (load_below true l (both_left _ _ h), loads_below ls n (both_right (loadb l) _ h))

pub below_at : (ls : List Load) → PendingBelow ls → (j : ℕ) → (get_or ls j zero_load).pending.0 ≤ most_pending
below_at [] h j = omega arith
below_at (l ∷ ls) h zero = h.0
below_at (l ∷ ls) h (suc j) = below_at ls h.1 j

-- THE TABLE

-- a server in use is sound, any other zero
pub record TableStated (t : Table) : Type 0 where
  pub count : t.count ≤ entries
  pub used : (i : ℕ) → i < t.count → serverb longest most_work (get_or t.servers i zero_server) ≡ true
  pub unused : (i : ℕ) → t.count ≤ i → i < entries → zero_serverb (get_or t.servers i zero_server) ≡ true

pub table_stated : (t : Table) → length t.servers ≡ entries → tableb longest most_work t ≡ true → TableStated t
unfolding tableb
table_stated t full h =
    let n : t.count ≤ entries = leb-true t.count entries (both_right (leb 1 t.count) _ (both_left _ _ h)) in
    let each = each_from (serverb longest most_work) zero_serverb zero_server t.servers t.count (omega arith) (both_right (rangeb 1 entries t.count) _ h) in
    record { count = n; used = each.used; unused = λ i m l. each.unused i m (omega arith) }

-- one server taken apart
pub record ServerStated (s : Server) : Type 0 where
  pub count : s.count ≤ entries
  pub period : s.period.0 ≤ longest
  pub tasks : tasksb longest most_work s ≡ true

pub server_stated : (s : Server) → serverb longest most_work s ≡ true → ServerStated s
server_stated s h =
    let a = both_right (kindb s.kind) _ h in
    let b = both_right (rangeb 1 longest s.period.0) _ a in
    let c = both_right (rangeb 1 s.period.0 s.budget.0) _ b in
    record {
      count = leb-true s.count entries (both_left _ _ c);
      period = leb-true s.period.0 longest (both_right (leb 1 s.period.0) _ (both_left _ _ a));
      tasks = both_right (leb s.count entries) _ c;
    }

pub zero_stated : (s : Server) → zero_serverb s ≡ true → ServerStated s
zero_stated s h =
    let a = both_right (eqb s.kind 0) _ h in
    let b = both_right (eqb s.period.0 0) _ a in
    let c = both_right (eqb s.budget.0 0) _ b in
    let n : s.count ≡ 0 = eqb-true s.count 0 (both_left _ _ c) in
    record {
      count = omega arith;
      period = omega (arith, eqb-true s.period.0 0 (both_left _ _ a));
      tasks = rw n (used_none (taskb longest most_work) zero_taskb zero_taskb s.tasks ∙ both_right (eqb s.count 0) _ c);
    }

-- what both say holds of every server of the table
pub every_server : (t : Table) → TableStated t → (i : ℕ) → i < entries → ServerStated (get_or t.servers i zero_server)
every_server t w i l = go (ltb i t.count) refl
  where
    go : (b : Bool) → ltb i t.count ≡ b → ServerStated (get_or t.servers i zero_server)
    go true p = server_stated (get_or t.servers i zero_server) (w.used i (ltb-true i t.count p))
    go false p = zero_stated (get_or t.servers i zero_server) (w.unused i (ltb-false i t.count p) l)

-- the work is in range in every task, used or not
task_below : (used : Bool) (t : Task) → pick used (taskb longest most_work t) (zero_taskb t) ≡ true → t.work.0 ≤ most_work
task_below true t h = leb-true t.work.0 most_work (both_right (leb 1 t.work.0) _ (both_left _ _ h))
task_below false t h = omega (arith, eqb-true t.work.0 0 (both_left _ _ h))

pub work_below : (ts : List Task) (n : ℕ) → usedb (taskb longest most_work) zero_taskb ts n ≡ true → (j : ℕ) → (get_or ts j zero_task).work.0 ≤ most_work
work_below [] n h j = omega arith
work_below (t ∷ ts) zero h zero = task_below false t (both_left _ _ h)
work_below (t ∷ ts) zero h (suc j) = work_below ts zero (both_right (zero_taskb t) _ h) j
work_below (t ∷ ts) (suc n) h zero = task_below true t (both_left _ _ h)
work_below (t ∷ ts) (suc n) h (suc j) = work_below ts n (both_right (taskb longest most_work t) _ h) j

-- THE STATE

-- what its test says of its parts
pub record Parts (s : State) : Type 0 where
  pub table : tableb longest most_work s.table ≡ true
  pub entries : entriesb s.table.servers s.entries ≡ true
  pub refills : holdsb max_gap longest (server_reaches s.table.servers) s.refills ≡ true
  pub spent : all_spentb s.table.servers s.entries ≡ true

pub state_parts : (s : State) → stateb s ≡ true ↔ Parts s
unfolding stateb
state_parts s = (
  λ h.
      let r = both_right (tableb longest most_work s.table) _ h in
      let q = both_right (entriesb s.table.servers s.entries) _ r in
      record {
        table = both_left _ _ h;
        entries = both_left _ _ r;
        refills = both_left _ _ q;
        spent = both_right (holdsb max_gap longest (server_reaches s.table.servers) s.refills) _ q;
      },
  λ h. rw (h.table, h.entries, h.refills) h.spent,
)

-- "eight server entries": every state of the code has them; an array of a struct is a bare list here
pub record Eight (s : State) : Type 0 where
  pub servers : length s.table.servers ≡ entries
  pub entries : length s.entries ≡ entries

pub record Stated (s : State) : Type 0 where
  pub table : tableb longest most_work s.table ≡ true
  pub servers : TableStated s.table
  pub entry : (i : ℕ) → i < entries → entryb (server_at s i) (entry_at s i) ≡ true
  pub refills : holdsb max_gap longest (server_reaches s.table.servers) s.refills ≡ true
  pub spent : all_spentb s.table.servers s.entries ≡ true

-- a test of each entry with its server, place by place
module _ (p : Server → Entry → Bool) where
  pub paired_from : (ss : List Server) (es : List Entry) → eachb p ss es ≡ true → (i : ℕ) → i < length ss → i < length es → p (get_or ss i zero_server) (get_or es i zero_entry) ≡ true
  paired_from [] es h i l m = absurd (omega arith)
  paired_from (s ∷ ss) [] h i l m = absurd (omega arith)
  paired_from (s ∷ ss) (e ∷ es) h zero l m = both_left _ _ h
  paired_from (s ∷ ss) (e ∷ es) h (suc i) l m = paired_from ss es (both_right (p s e) _ h) i (omega arith) (omega arith)

  pub paired_to : (ss : List Server) (es : List Entry)
      → ((i : ℕ) → i < length ss → i < length es → p (get_or ss i zero_server) (get_or es i zero_entry) ≡ true) → eachb p ss es ≡ true
  paired_to [] es h = refl
  paired_to (s ∷ ss) [] h = refl
  paired_to (s ∷ ss) (e ∷ es) h =
      rw (h 0 (omega arith) (omega arith)) (paired_to ss es λ i l m. h (suc i) (omega arith) (omega arith))

  -- one changed, as its server allows
  pub paired_one : (f : Entry → Entry) (ss : List Server) (es : List Entry) (i : ℕ)
      → ((e : Entry) → p (get_or ss i zero_server) e ≡ true → p (get_or ss i zero_server) (f e) ≡ true) → eachb p ss es ≡ true → eachb p ss (alter f es i) ≡ true
  paired_one f [] es i k h = refl
  paired_one f (s ∷ ss) [] i k h = refl
  paired_one f (s ∷ ss) (e ∷ es) zero k h = rw (k e (both_left _ _ h)) (both_right (p s e) _ h)
  paired_one f (s ∷ ss) (e ∷ es) (suc i) k h = rw (both_left (p s e) _ h) (paired_one f ss es i k (both_right (p s e) _ h))

pub stated : (s : State) → Eight s → stateb s ≡ true ↔ Stated s
unfolding stateb
stated s z = (
  λ h.
      let r = both_right (tableb longest most_work s.table) _ h in
      let q = both_right (entriesb s.table.servers s.entries) _ r in
      record {
        table = both_left _ _ h;
        servers = table_stated s.table z.servers (both_left _ _ h);
        entry = λ i l. paired_from entryb s.table.servers s.entries (both_left _ _ r) i (omega (arith, z.servers)) (omega (arith, z.entries));
        refills = both_left _ _ q;
        spent = both_right (holdsb max_gap longest (server_reaches s.table.servers) s.refills) _ q;
      },
  λ h.
      let e : entriesb s.table.servers s.entries ≡ true = paired_to entryb s.table.servers s.entries λ i l m. h.entry i (omega (arith, z.servers)) in
      rw (h.table, e, h.refills) h.spent,
)
