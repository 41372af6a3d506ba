-- The test of a state says what specs/Meaning.antt says, as each of its parts is tested place by place, and a place that is not in use has no reach, and so no
-- event. The arrays have their lengths. Assumes nothing.
use mathlib.Core.Path.{◌≡◌, refl, sym, ap, ◌∙◌}
use mathlib.Core.Bool.{Bool, true, false, not}
use mathlib.Core.List.{List, [], ◌∷◌}
use mathlib.Core.Logic.{◌↔◌}
use Prim.Native.Nat.{ℕ, ◌≤◌, ◌<◌, max}
use native.Mathlib.Omega.{arith}
use lib.Dec.{leb, ltb, eqb}
use lib.ListN.{length, get_or, replicate, get_or-eq_default}
use lib.Seq.{ext_get_or}
use borrow.Author.Tests.{leb-true, leb-false, ltb-true, ltb-false, eqb-true, eq-eqb, le-leb}
use Rattle.small.specs.Small.{pick, both}
use Rattle.small.proofs.Tests.{both_left, both_right}
use Rattle.small.proofs.Used.{Each, each_from, each_to}
use Rattle.small.proofs.Lists.{past_default, replicate_default}
use Rattle.queue.specs.Limits.{max_gap, longest}
use Rattle.queue.specs.Row.{Event, cells_of, queue_of, events_of, normal}
use Rattle.queue.specs.Sound.{sameb, soundb, hasb}
use Rattle.queue.specs.Meaning.{SoundQueue, there, away}
use Rattle.queue.specs.Holds.{holdsb}
use Rattle.queue.specs.declared.Queue.{Queue}
use Rattle.queue.proofs.SoundLaws.{sound_is}
use Rattle.queue.proofs.Soundness.{queue_sound}
use Rattle.table.specs.Kind.{polling_kind}
use Rattle.table.specs.Limits.{most_work, entries}
use Rattle.table.specs.Table.{zero_task, zero_server, release_number, period_of, offset_of}
use Rattle.table.specs.Sound.{tableb}
use Rattle.table.specs.Meaning.{Within, SoundRelease, SoundTable}
use Rattle.table.specs.declared.Release.{Release}
use Rattle.table.specs.declared.Release.TheVariants.{OnArrival, Periodic}
use Rattle.table.specs.declared.Task.{Task}
use Rattle.table.specs.declared.Server.{Server}
use Rattle.table.proofs.Soundness.{table_sound}
use Rattle.state.specs.State.{most_pending, most_lost, zero_load, zero_entry, server_at, entry_at, task_at, load_at, period_at}
use Rattle.state.specs.Choice.{pendingb, some_pending}
use Rattle.state.specs.Sound.{release_reach, task_reaches, server_reaches, loadb, zero_loadb, entryb, spentb, stateb}
use Rattle.state.specs.Meaning.{SizedState, release_at, larger_at, PeriodicTask, SoundState}
use Rattle.state.specs.declared.Load.{Load}
use Rattle.state.specs.declared.Entry.{Entry}
use Rattle.state.specs.declared.State.{State}
use Rattle.state.proofs.Stated.{server_reach, task_reach, EntryStated, entry_stated, table_stated, Eight, Stated, paired_from, paired_to, stated}
use Rattle.state.proofs.Choosing.{some_none}
use Rattle.state.proofs.HeldEach.{held_each, held_reached}

-- WHAT IS NOT IN USE

-- a sound queue in which no id is there is the empty one
no_events : (es : List Event) → ((j : ℕ) → hasb j es ≡ true → ⊥) → es ≡ []
no_events [] h = refl
no_events (e ∷ es) h = absurd (h e.id (rw (eq-eqb e.id e.id refl)))

no_queue : (q : Queue) → soundb max_gap longest q ≡ true → ((j : ℕ) → there j q ≡ true → ⊥) → q ≡ queue_of []
no_queue q s h = (sound_is max_gap longest q s).form ∙ ap (λ (es : List Event). queue_of (normal max_gap 0 es)) (no_events (events_of q) h)

-- LOADS

load_words_lem : (l : Load) → loadb l ≡ true ↔ ((l.pending.0 ≤ most_pending) × (l.lost ≤ most_lost))
load_words_lem l = (
  λ e. (leb-true l.pending.0 most_pending (both_left _ _ e), leb-true l.lost most_lost (both_right (leb l.pending.0 most_pending) _ e)),
  λ w. rw (le-leb l.pending.0 most_pending w.0, le-leb l.lost most_lost w.1),
)

zero_load_lem : (l : Load) → zero_loadb l ≡ true ↔ (l ≡ zero_load)
zero_load_lem l = (forth, λ e. ap zero_loadb e)
  where
    forth : zero_loadb l ≡ true → l ≡ zero_load
    forth e =
        let p : l.pending.0 ≡ 0 = eqb-true l.pending.0 0 (both_left _ _ e) in
        let q : l.lost ≡ 0 = eqb-true l.lost 0 (both_right (eqb l.pending.0 0) _ e) in
        λ j. record { pending = record { 0 = p j }; lost = q j }

-- THE ENTRY OF A SERVER THAT IS NOT IN USE

zero_reach : (j : ℕ) → get_or (task_reaches zero_server.tasks) j 0 ≡ 0
zero_reach j = task_reach zero_server.tasks j ∙ rw (replicate_default entries j zero_task)

zero_entry_lem : (e : Entry) → length e.loads ≡ entries → EntryStated zero_server e → e ≡ zero_entry
zero_entry_lem e full w =
    let held = (held_each (task_reaches zero_server.tasks) e.arrivals).0 w.arrivals in
    let each = each_from loadb zero_loadb zero_load e.loads 0 (omega arith) w.loads in
    let b : e.budget.0 ≡ 0 = omega (arith, w.budget) in
    let ls : e.loads ≡ replicate entries zero_load =
    ext_get_or zero_load e.loads (replicate entries zero_load) full λ i h. (zero_load_lem (get_or e.loads i zero_load)).0 (each.unused i (omega arith) h) ∙ sym (replicate_default entries i zero_load) in
    let q : e.arrivals ≡ queue_of [] =
    no_queue e.arrivals held.sound λ j t. omega (arith, held_reached (task_reaches zero_server.tasks) e.arrivals held j t, zero_reach j) in
    λ j. record { loads = ls j; arrivals = q j; budget = record { 0 = b j } }

zero_passes : entryb zero_server zero_entry ≡ true
unfolding entryb holdsb soundb sameb cells_of queue_of
zero_passes = refl

-- A QUEUE IN WORDS: sound alone, it holds exactly the ids of P, each 1 to its reach away

record Exactly (P : ℕ → Type 0) (reach : ℕ → ℕ) (q : Queue) : Type 0 where
  pub sound : SoundQueue max_gap longest q
  pub held : (j : ℕ) → there j q ≡ true ↔ P j
  pub near : (j : ℕ) → P j → Within 1 (reach j) (away j q)

module _ (rs : List ℕ) (P : ℕ → Type 0) (reach : ℕ → ℕ) (same : (j : ℕ) → get_or rs j 0 ≡ reach j) (reached : (j : ℕ) → (1 ≤ reach j) ↔ P j) (q : Queue) where
  exactly : holdsb max_gap longest rs q ≡ true ↔ Exactly P reach q
  exactly = (forth, back)
    where
      words : soundb max_gap longest q ≡ true ↔ SoundQueue max_gap longest q
      words = queue_sound max_gap longest (omega arith) q

      forth : holdsb max_gap longest rs q ≡ true → Exactly P reach q
      forth h =
          let e = (held_each rs q).0 h in
          let put : (j : ℕ) → P j → there j q ≡ true = λ j p. e.present j (rw (same j) ((reached j).1 p)) in
          record {
            sound = words.0 e.sound;
            held = λ j. (λ t. (reached j).0 (rw (same j) at (held_reached rs q e j t)), put j);
            near = λ j p. let w = e.within j (put j p) in record { low = w.0; high = rw (same j) at w.1 };
          }

      back : Exactly P reach q → holdsb max_gap longest rs q ≡ true
      back e = (held_each rs q).1 record {
        sound = words.1 e.sound;
        within = λ j t. let w = e.near j ((e.held j).0 t) in (w.low, rw (same j) w.high);
        present = λ j m. (e.held j).1 ((reached j).0 (rw (same j) at m));
      }

-- REACHES: there is one exactly where the document has an event, and it is the document's

release_larger : (r : Release) → release_reach r ≡ max (period_of r) (offset_of r)
release_larger OnArrival = refl
release_larger (Periodic T O) = go (leb T.0 O.0) refl
  where
    go : (b : Bool) → leb T.0 O.0 ≡ b → pick b O.0 T.0 ≡ max T.0 O.0
    go true p = let l : T.0 ≤ O.0 = leb-true T.0 O.0 p in omega arith
    go false p = let l : O.0 < T.0 = leb-false T.0 O.0 p in omega arith

release_reached : (D : ℕ) (r : Release) → SoundRelease D r → (1 ≤ max (period_of r) (offset_of r)) ↔ (release_number r ≡ 1)
release_reached D OnArrival w = (λ h. absurd (omega arith), λ e. absurd (omega arith))
release_reached D (Periodic T O) w = (λ h. refl, λ e. omega (arith, w.period.low))

module _ (s : State) (t : SoundTable longest most_work s.table) where
  unused_server : (i : ℕ) → s.table.count ≤ i → server_at s i ≡ zero_server
  unused_server = past_default s.table.servers zero_server s.table.count t.unused

  refill_reached : (i : ℕ) → (1 ≤ period_at s i) ↔ (i < s.table.count)
  refill_reached i = (go (ltb i s.table.count) refl, λ u. (t.used i u).period.low)
    where
      go : (b : Bool) → ltb i s.table.count ≡ b → 1 ≤ period_at s i → i < s.table.count
      go true p h = ltb-true i s.table.count p
      go false p h =
          let e : period_at s i ≡ 0 = ap (λ (v : Server). v.period.0) (unused_server i (ltb-false i s.table.count p)) in
          absurd (omega arith)

  -- a task that is not in use has no reach
  unused_reach : (i j : ℕ) → task_at (server_at s i) j ≡ zero_task → larger_at s i j ≡ 0
  unused_reach i j e = ap (λ (v : Task). max (period_of v.release) (offset_of v.release)) e

  arrival_reached : (i j : ℕ) → (1 ≤ larger_at s i j) ↔ PeriodicTask s i j
  arrival_reached i j = (
    go (ltb i s.table.count) (ltb j (server_at s i).count) refl refl,
    λ w. (release_reached longest (release_at s i j) ((t.used i w.server).used j w.task).release).1 w.periodic,
  )
    where
      go : (b c : Bool) → ltb i s.table.count ≡ b → ltb j (server_at s i).count ≡ c → 1 ≤ larger_at s i j → PeriodicTask s i j
      go true true p q h =
          let u : i < s.table.count = ltb-true i s.table.count p in
          let v : j < (server_at s i).count = ltb-true j (server_at s i).count q in
          record { server = u; task = v; periodic = (release_reached longest (release_at s i j) ((t.used i u).used j v).release).0 h }
      go true false p q h =
          let w = t.used i (ltb-true i s.table.count p) in
          let m : (server_at s i).count ≤ j = ltb-false j (server_at s i).count q in
          absurd (omega (arith, unused_reach i j (past_default (server_at s i).tasks zero_task (server_at s i).count w.unused j m)))
      go false c p q h =
          let e : server_at s i ≡ zero_server = unused_server i (ltb-false i s.table.count p) in
          absurd (omega (arith, unused_reach i j (ap (λ (v : Server). task_at v j) e ∙ replicate_default entries j zero_task)))

  refills_exactly : holdsb max_gap longest (server_reaches s.table.servers) s.refills ≡ true ↔ Exactly (λ (i : ℕ). i < s.table.count) (period_at s) s.refills
  refills_exactly =
      exactly (server_reaches s.table.servers) (λ (i : ℕ). i < s.table.count) (period_at s) (server_reach s.table.servers) refill_reached s.refills

  arrivals_exactly : (i : ℕ) → holdsb max_gap longest (task_reaches (server_at s i).tasks) (entry_at s i).arrivals ≡ true ↔ Exactly (PeriodicTask s i) (larger_at s i) (entry_at s i).arrivals
  arrivals_exactly i =
      let same : (j : ℕ) → get_or (task_reaches (server_at s i).tasks) j 0 ≡ larger_at s i j = λ j. task_reach (server_at s i).tasks j ∙ release_larger (release_at s i j) in
      exactly (task_reaches (server_at s i).tasks) (PeriodicTask s i) (larger_at s i) same (arrival_reached i) (entry_at s i).arrivals

-- A BUDGET THAT IS GIVEN UP

spent_words : (s : Server) (e : Entry) → spentb s e ≡ true ↔ (s.kind ≡ polling_kind → ((j : ℕ) → pendingb (get_or e.loads j zero_load) ≡ false) → e.budget.0 ≡ 0)
spent_words s e = (forth, back (eqb s.kind polling_kind) (some_pending e.loads) refl refl)
  where
    forth : spentb s e ≡ true → s.kind ≡ polling_kind → ((j : ℕ) → pendingb (get_or e.loads j zero_load) ≡ false) → e.budget.0 ≡ 0
    forth h k n = eqb-true e.budget.0 0 (rw (eq-eqb s.kind polling_kind k, (some_none e.loads).1 n) at h)

    back : (a b : Bool) → eqb s.kind polling_kind ≡ a → some_pending e.loads ≡ b
        → (s.kind ≡ polling_kind → ((j : ℕ) → pendingb (get_or e.loads j zero_load) ≡ false) → e.budget.0 ≡ 0) → pick (both a (not b)) (eqb e.budget.0 0) true ≡ true
    back true true p q h = refl
    back true false p q h = eq-eqb e.budget.0 0 (h (eqb-true s.kind polling_kind p) ((some_none e.loads).0 q))
    back false b p q h = refl

-- THE STATE

module _ (s : State) (z : SizedState s) where
  eight : Eight s
  eight = record { servers = z.table.servers; entries = z.servers }

  module _ (h : stateb s ≡ true) where
    parts : Stated s
    parts = (stated s eight).0 h

    known : SoundTable longest most_work s.table
    known = (table_sound longest most_work s.table z.table).0 parts.table

    -- each entry with its server; past the end both are zero
    entry_known : (i : ℕ) → EntryStated (server_at s i) (entry_at s i)
    entry_known i = (entry_stated (server_at s i) (entry_at s i)).0 (go (ltb i entries) refl)
      where
        go : (b : Bool) → ltb i entries ≡ b → entryb (server_at s i) (entry_at s i) ≡ true
        go true p = parts.entry i (ltb-true i entries p)
        go false p =
            let m : entries ≤ i = ltb-false i entries p in
            let a : server_at s i ≡ zero_server = get_or-eq_default s.table.servers zero_server (omega (arith, z.table.servers)) in
            let b : entry_at s i ≡ zero_entry = get_or-eq_default s.entries zero_entry (omega (arith, z.servers)) in
            rw (a, b) zero_passes

    loads_full : (i : ℕ) → i < s.table.count → length (entry_at s i).loads ≡ entries
    loads_full i u = z.loads i (omega (arith, known.count.high))

    loads_known : (i : ℕ) → i < s.table.count → Each loadb zero_loadb zero_load (entry_at s i).loads (server_at s i).count
    loads_known i u =
        each_from loadb zero_loadb zero_load (entry_at s i).loads (server_at s i).count (omega (arith, loads_full i u, (known.used i u).count)) (entry_known i).loads

    refills_known : Exactly (λ (i : ℕ). i < s.table.count) (period_at s) s.refills
    refills_known = (refills_exactly s known).0 parts.refills

    arrivals_known : (i : ℕ) → Exactly (PeriodicTask s i) (larger_at s i) (entry_at s i).arrivals
    arrivals_known i = (arrivals_exactly s known i).0 (entry_known i).arrivals

    state_forth : SoundState s
    state_forth = record {
      table = known;
      unused_servers = λ i m l. zero_entry_lem (entry_at s i) (z.loads i l) (rw (unused_server s known i m) at (entry_known i));
      unused_tasks = λ i j u m l. (zero_load_lem (load_at s i j)).0 ((loads_known i u).unused j m (omega (arith, loads_full i u)));
      budgets = λ i u. (entry_known i).budget;
      pending = λ i j u v. ((load_words_lem (load_at s i j)).0 ((loads_known i u).used j v)).0;
      lost = λ i j u v. ((load_words_lem (load_at s i j)).0 ((loads_known i u).used j v)).1;
      refills_sound = refills_known.sound;
      arrivals_sound = λ i l. (arrivals_known i).sound;
      refills_held = refills_known.held;
      arrivals_held = λ i. (arrivals_known i).held;
      refills_away = refills_known.near;
      arrivals_away = λ i. (arrivals_known i).near;
      polling = λ i u.
          let l : i < entries = omega (arith, known.count.high) in
          (spent_words (server_at s i) (entry_at s i)).0 (paired_from spentb s.table.servers s.entries parts.spent i (omega (arith, eight.servers)) (omega (arith, eight.entries)));
    }

  state_back : SoundState s → stateb s ≡ true
  state_back w = (stated s eight).1 record {
    table = tested;
    servers = table_stated s.table z.table.servers tested;
    entry = λ i l. go i l (ltb i s.table.count) refl;
    refills = (refills_exactly s w.table).1 record { sound = w.refills_sound; held = w.refills_held; near = w.refills_away };
    spent = paired_to spentb s.table.servers s.entries λ i l m. rests i (ltb i s.table.count) refl;
  }
    where
      tested : tableb longest most_work s.table ≡ true
      tested = (table_sound longest most_work s.table z.table).1 w.table

      go : (i : ℕ) → i < entries → (b : Bool) → ltb i s.table.count ≡ b → entryb (server_at s i) (entry_at s i) ≡ true
      go i l true p =
          let u : i < s.table.count = ltb-true i s.table.count p in
          let each : Each loadb zero_loadb zero_load (entry_at s i).loads (server_at s i).count =
          record {
            used = λ j v. (load_words_lem (load_at s i j)).1 (w.pending i j u v, w.lost i j u v);
            unused = λ j m k. (zero_load_lem (load_at s i j)).1 (w.unused_tasks i j u m (omega (arith, z.loads i l)));
          } in
          (entry_stated (server_at s i) (entry_at s i)).1 record {
            budget = w.budgets i u;
            loads = each_to loadb zero_loadb zero_load (entry_at s i).loads (server_at s i).count each;
            arrivals = (arrivals_exactly s w.table i).1 record { sound = w.arrivals_sound i l; held = w.arrivals_held i; near = w.arrivals_away i };
          }
      go i l false p =
          let m : s.table.count ≤ i = ltb-false i s.table.count p in
          rw (unused_server s w.table i m, w.unused_servers i m l) zero_passes

      rests : (i : ℕ) (b : Bool) → ltb i s.table.count ≡ b → spentb (server_at s i) (entry_at s i) ≡ true
      rests i true p = (spent_words (server_at s i) (entry_at s i)).1 (w.polling i (ltb-true i s.table.count p))
      rests i false p = rw (unused_server s w.table i (ltb-false i s.table.count p))

-- "A STATE IS SOUND IF .."
pub state_sound : (s : State) → SizedState s → stateb s ≡ true ↔ SoundState s
state_sound s z = (state_forth s z, state_back s z)
