-- What the soundness of a table and of a state says of each of their parts, used or not: enough that its words hold it. Assumes nothing.
use mathlib.Core.Path.{◌≡◌, refl, ap, sym}
use mathlib.Core.Bool.{true}
use mathlib.Core.List.{List, [], ◌∷◌}
use mathlib.Core.Logic.{⊎_elim}
use Prim.Native.Nat.{ℕ, suc, ◌≤◌, ◌<◌}
use native.Mathlib.Omega.{arith}
use lib.Dec.{leb, eqb}
use lib.ListN.{length, get_or}
use lib.Seq.{take-length}
use borrow.Author.Tests.{leb-true, eqb-true}
use Rattle.small.proofs.Tests.{both_left, both_right}
use Rattle.small.specs.Small.{All}
use Rattle.small.proofs.All.{all_take, all_at, all_both}
use Rattle.small.proofs.Used.{used_all}
use Rattle.queue.specs.Limits.{cell_count, max_gap, longest}
use Rattle.queue.specs.Sound.{soundb}
use Rattle.queue.specs.Holds.{holdsb}
use Rattle.queue.specs.declared.Queue.{Queue}
use Rattle.queue.proofs.SoundLaws.{sound_is, sound_full}
use Rattle.table.specs.Limits.{most_work, entries}
use Rattle.table.specs.Sound.{rangeb, kindb, releaseb, taskb, arrivalb, zero_taskb, serverb, zero_serverb, tableb}
use Rattle.table.specs.declared.Release.{Release}
use Rattle.table.specs.declared.Release.TheVariants.{OnArrival, Periodic}
use Rattle.table.specs.declared.Task.{Task}
use Rattle.table.specs.declared.Server.{Server}
use Rattle.table.specs.declared.Table.{Table}
use Rattle.table.proofs.SoundLaws.{kind_known}
use Rattle.state.specs.State.{server_at, entry_at, zero_entry}
use Rattle.state.specs.Sound.{task_reaches, server_reaches, loadb, zero_loadb, entryb, entriesb, stateb}
use Rattle.state.specs.Meaning.{SizedState}
use Rattle.state.specs.declared.Load.{Load}
use Rattle.state.specs.declared.Entry.{Entry}
use Rattle.state.specs.declared.State.{State}
use Rattle.state.proofs.Stated.{held, entry_stated, stated}
use Rattle.refusal.specs.Refusal.{none}
use Rattle.refusal.specs.declared.Refusal.{Refusal}
use Rattle.port.specs.Exports.{budget_refusal}
use Rattle.port.proofs.Refusals.{budget_accepted}
use Rattle.port.specs.Layout.{word_limit}
use Rattle.port.specs.Words.{TableFits, StateFits}
use Rattle.port.proofs.Storing.{sound_few}
use Rattle.port.proofs.Sizing.{FullEntry, FullServer, FullState, sized_full}

-- TABLES

abbrev pub TaskRange : Task → Type 0
TaskRange t = releaseb longest t.release ≡ true

pub record ServerRange (s : Server) : Type 0 where
  pub kind : s.kind ≤ 3
  pub count : s.count ≤ entries
  pub tasks : All TaskRange s.tasks

pub record TableRange (t : Table) : Type 0 where
  pub count : t.count ≤ entries
  pub servers : All ServerRange t.servers

on_arrival_lem : (r : Release) → arrivalb r ≡ true → releaseb longest r ≡ true
on_arrival_lem OnArrival h = refl
on_arrival_lem (Periodic p o) h = absurd (let z : ◌≡◌ {A = ℕ} 0 1 = cc in omega arith)

task_range : (t : Task) → taskb longest most_work t ≡ true → TaskRange t
task_range t h = both_right (rangeb 1 most_work t.work.0) _ h

zero_task_range : (t : Task) → zero_taskb t ≡ true → TaskRange t
zero_task_range t h = on_arrival_lem t.release (both_right (eqb t.work.0 0) _ h)

server_range : (s : Server) → serverb longest most_work s ≡ true → ServerRange s
server_range s h =
    let a = both_right (kindb s.kind) _ h in
    let b = both_right (rangeb 1 longest s.period.0) _ a in
    let c = both_right (rangeb 1 s.period.0 s.budget.0) _ b in
    record {
      kind = ⊎_elim (λ e. omega arith) (⊎_elim (λ e. omega arith) (λ e. omega arith)) ((kind_known s.kind).0 (both_left _ _ h));
      count = leb-true s.count entries (both_left _ _ c);
      tasks = used_all TaskRange (taskb longest most_work) zero_taskb task_range zero_task_range s.tasks s.count (both_right (leb s.count entries) _ c);
    }

zero_server_range : (s : Server) → zero_serverb s ≡ true → ServerRange s
zero_server_range s h =
    let a = both_right (eqb s.kind 0) _ h in
    let b = both_right (eqb s.period.0 0) _ a in
    let c = both_right (eqb s.budget.0 0) _ b in
    record {
      kind = omega (arith, eqb-true s.kind 0 (both_left _ _ h));
      count = omega (arith, eqb-true s.count 0 (both_left _ _ c));
      tasks = used_all TaskRange zero_taskb zero_taskb zero_task_range zero_task_range s.tasks 0 (both_right (eqb s.count 0) _ c);
    }

pub table_range : (t : Table) → tableb longest most_work t ≡ true → TableRange t
unfolding tableb
table_range t h = record {
  count = leb-true t.count entries (both_right (leb 1 t.count) _ (both_left _ _ h));
  servers = used_all ServerRange (serverb longest most_work) zero_serverb server_range zero_server_range t.servers t.count
      (both_right (rangeb 1 entries t.count) _ h);
}

-- STATES

-- a queue that holds what it is to hold: an event for each of few places
pub record QueueRange (q : Queue) : Type 0 where
  pub reach : List ℕ
  pub few : length reach ≤ entries
  pub holds : holdsb max_gap longest reach q ≡ true

pub record EntryRange (e : Entry) : Type 0 where
  pub loads : All (λ l. loadb l ≡ true) e.loads
  pub arrivals : QueueRange e.arrivals

pub record StateRange (s : State) : Type 0 where
  pub table : TableRange s.table
  pub refills : QueueRange s.refills
  pub entries : All EntryRange s.entries

zero_load_range : (l : Load) → zero_loadb l ≡ true → loadb l ≡ true
zero_load_range l h =
    let p : l.pending.0 ≡ 0 = eqb-true l.pending.0 0 (both_left _ _ h) in
    let n : l.lost ≡ 0 = eqb-true l.lost 0 (both_right (eqb l.pending.0 0) _ h) in
    rw (p, n)

task_reaches_lem : (ts : List Task) → length (task_reaches ts) ≡ length ts
task_reaches_lem [] = refl
task_reaches_lem (t ∷ ts) = ap suc (task_reaches_lem ts)

server_reaches_lem : (ss : List Server) → length (server_reaches ss) ≡ length ss
server_reaches_lem [] = refl
server_reaches_lem (s ∷ ss) = ap suc (server_reaches_lem ss)

entry_range : (s : Server) (e : Entry) → length s.tasks ≡ entries → entryb s e ≡ true → EntryRange e
entry_range s e full h =
    let w = (entry_stated s e).0 h in
    record {
      loads = used_all (λ l. loadb l ≡ true) loadb zero_loadb (λ l k. k) zero_load_range e.loads s.count w.loads;
      arrivals = record { reach = task_reaches s.tasks; few = omega (arith, task_reaches_lem s.tasks); holds = w.arrivals };
    }

entries_range : (ss : List Server) (es : List Entry) → All FullServer ss → length es ≤ length ss → entriesb ss es ≡ true → All EntryRange es
entries_range ss [] f l h = tt
entries_range [] (e ∷ es) f l h = absurd (omega arith)
entries_range (s ∷ ss) (e ∷ es) f l h =
    (entry_range s e f.0.tasks (both_left _ _ h), entries_range ss es f.1 (omega arith) (both_right (entryb s e) _ h))

pub state_range : (s : State) → FullState s → stateb s ≡ true → StateRange s
unfolding stateb
state_range s f h =
    let r = both_right (tableb longest most_work s.table) _ h in
    let ss = s.table.servers in
    let q = both_right (entriesb ss s.entries) _ r in
    record {
      table = table_range s.table (both_left _ _ h);
      refills = record { reach = server_reaches ss; few = omega (arith, server_reaches_lem ss, f.table.count); holds = both_left _ _ q };
      entries = entries_range ss s.entries f.table.servers (omega (arith, f.table.count, f.count)) (both_left _ _ r);
    }

-- the table of a sound state is sound
pub table_of_lem : (s : State) → stateb s ≡ true → tableb longest most_work s.table ≡ true
unfolding stateb
table_of_lem s h = both_left _ _ h

-- and each of its queues
pub queue_sound : (q : Queue) → QueueRange q → soundb max_gap longest q ≡ true
queue_sound q r = ((held r.reach q).0 r.holds).sound

-- the count of its cells fits into a word
pub queue_few : (q : Queue) → QueueRange q → q.len < word_limit
queue_few q r = sound_few q (queue_sound q r)

-- a sound state whose arrays have eight entries is full: the cells are those of sound queues
pub sound_state_full : (s : State) → SizedState s → stateb s ≡ true → FullState s
sound_state_full s z h =
    let n : length s.entries ≡ entries = z.servers in
    let w = (stated s record { servers = z.table.servers; entries = n }).0 h in
    let cells : (reach : List ℕ) (q : Queue) → holdsb max_gap longest reach q ≡ true → length q.cells ≡ cell_count =
    λ reach q k. sound_full max_gap longest q (sound_is max_gap longest q ((held reach q).0 k).sound) in
    let each : (i : ℕ) → i < length s.entries → FullEntry (get_or s.entries i zero_entry) =
    λ i l. record { loads = z.loads i (omega arith); cells = cells _ _ ((entry_stated (server_at s i) (entry_at s i)).0 (w.entry i (omega arith))).arrivals } in
    record {
      table = sized_full s.table z.table;
      cells = cells _ _ w.refills;
      count = n;
      entries = rw take-length at (all_take FullEntry zero_entry s.entries (length s.entries) (omega arith) each);
    }

-- WHAT IS SOUND FITS INTO WORDS

pub table_fits : (t : Table) → tableb longest most_work t ≡ true → TableFits t
table_fits t h =
    let r = table_range t h in
    record { count = omega (arith, r.count); servers = all_both {P = ServerRange} {Q = ServerRange} (λ s p _. omega (arith, p.count)) t.servers r.servers r.servers }

pub state_fits : (s : State) → SizedState s → stateb s ≡ true → StateFits s
state_fits s z h =
    let r = state_range s (sound_state_full s z h) h in
    record {
      table = table_fits s.table (table_of_lem s h);
      refills = queue_few s.refills r.refills;
      entries = all_both {P = EntryRange} {Q = EntryRange} (λ e p _. queue_few e.arrivals p.arrivals) s.entries r.entries r.entries;
    }

-- A SERVER WHOSE BUDGET IS READ: the state is sound, and so there are few servers, and few tasks of each
module _ (s : State) (i : ℕ) (e : none ≡ budget_refusal s i) where
  passed : (stateb s ≡ true) × (i < s.table.count)
  passed = (budget_accepted s i).0 (ap (λ (r : Refusal). r.number) (sym e))

  pub place_few : i < entries
  place_few = omega (arith, passed.1, (table_range s.table (table_of_lem s passed.0)).count)

  pub tasks_few : (z : Server) → length s.table.servers ≡ entries → (get_or s.table.servers i z).count ≤ entries
  tasks_few z l = (all_at ServerRange z s.table.servers (table_range s.table (table_of_lem s passed.0)).servers i (omega (arith, l, place_few))).count
