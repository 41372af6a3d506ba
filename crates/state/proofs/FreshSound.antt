-- Why the fresh state of a sound table is sound, and what it holds (Keeps and Laws say it): every event finds room, and stands within its reach. Assumes nothing.
use mathlib.Core.Path.{◌≡◌, refl, sym, ap, ◌∙◌}
use mathlib.Core.Bool.{Bool, true, false}
use mathlib.Core.List.{List, [], ◌∷◌}
use mathlib.Core.Logic.{◌≢◌}
use Prim.Native.Nat.{ℕ, zero, suc, ◌+◌, ◌≤◌, ◌<◌}
use native.Mathlib.Omega.{arith}
use lib.Dec.{leb, ltb, eqb}
use lib.ListN.{length, get_or, get_or-eq_default}
use borrow.Author.Tests.{ltb-true, ltb-false, leb-true, leb-false, le-leb, eqb-true, eqb-false}
use Rattle.small.specs.Small.{pick, usedb}
use Rattle.small.proofs.Tests.{both_left, both_right, neither_left, neither_right, contrary}
use Rattle.queue.specs.Limits.{max_gap, longest, cell_count}
use Rattle.queue.specs.Row.{Event, event, cells_of, queue_of, events_of, normal}
use Rattle.queue.specs.Sound.{hasb, soundb}
use Rattle.queue.specs.Calls.{with_event, distance_of, insert_of}
use Rattle.queue.specs.declared.Queue.{Queue}
use Rattle.queue.proofs.Normal.{sorted_events}
use Rattle.queue.proofs.SoundLaws.{sound_is, empty_events}
use Rattle.queue.proofs.Events.{with_length, with_sorted, with_near}
use Rattle.queue.proofs.Refusals.{insert_accepted}
use Rattle.queue.proofs.Keeps.{empty_sound, insert_sound}
use Rattle.queue.specs.Meaning.{there, away}
use Rattle.queue.proofs.DueTimes.{insert_others, insert_new}
use Rattle.queue.proofs.Room.{room}
use Rattle.table.specs.Limits.{most_work, entries}
use Rattle.table.specs.Table.{period_of, zero_task, zero_server, period_in}
use Rattle.table.specs.Sound.{taskb, zero_taskb}
use Rattle.table.specs.declared.Release.{Release}
use Rattle.table.specs.declared.Release.TheVariants.{OnArrival, Periodic}
use Rattle.table.specs.declared.Task.{Task}
use Rattle.table.specs.declared.Server.{Server}
use Rattle.table.specs.declared.Table.{Table}
use Rattle.table.proofs.SoundLaws.{range_within, zero_task_lem}
use Rattle.state.specs.State.{most_pending, zero_load, zero_entry, task_at}
use Rattle.state.specs.Polling.{lapsed}
use Rattle.state.specs.Sound.{release_reach, task_reaches, server_reaches, loadb, zero_loadb, entryb, entriesb, all_spentb}
use Rattle.state.specs.Fresh.{first_away, task_away, first_work, fresh_load, fresh_loads, put_in, fresh_queue, filled_entry, fresh_entry, fresh_entries}
use Rattle.state.specs.declared.Entry.{Entry}
use Rattle.state.proofs.Stated.{entry_stated, ServerStated, zero_stated, server_reach, task_reach}
use Rattle.state.proofs.Lapsing.{lapsed_keeps, lapsed_sound, lapsed_spent}
use Rattle.state.proofs.HeldEach.{HeldEach, held_each, few_ids}
use Rattle.state.proofs.Delays.{Delayed, task_delayed, Every}

-- EVENTS PUT IN BY TABLE ORDER

-- an event at most the longest distance away finds room beside 7
insert_room : (q : Queue) (id d : ℕ) → soundb max_gap longest q ≡ true → length (events_of q) < entries → d ≤ longest
    → length (normal max_gap 0 (with_event (event id d) (events_of q))) ≤ cell_count
insert_room q id d s l h =
    let x = event id d in
    let es = events_of q in
    let o = with_sorted 0 x es (omega arith) (sorted_events 0 (cells_of q)) in
    let n = with_near longest x es (le-leb d longest h) (sound_is max_gap longest q s).near in
    omega (arith, with_length x es, room max_gap longest 0 (with_event x es) (omega arith) o n)

-- `first` is how far the event of each id is away at first, 0 where it has none
module _ (reach : List ℕ) (first : ℕ → ℕ) (each : (j : ℕ) → 1 ≤ get_or reach j 0 → Delayed first reach j) (none : (j : ℕ) → first j ≤ get_or reach j 0) where
  -- the events of the ids below i, and no other
  record Put (i : ℕ) (q : Queue) : Type 0 where
    sound : soundb max_gap longest q ≡ true
    below : (j : ℕ) → there j q ≡ true → j < i
    at : (j : ℕ) → there j q ≡ true → (1 ≤ first j) × (away j q ≡ first j)
    present : (j : ℕ) → j < i → 1 ≤ get_or reach j 0 → there j q ≡ true

  put_none : Put 0 (queue_of [])
  put_none =
      record {
        sound = empty_sound max_gap longest;
        below = λ j t. contrary t (ap (hasb j) empty_events);
        at = λ j t. contrary t (ap (hasb j) empty_events);
        present = λ j l m. absurd (omega arith);
      }

  module _ (i : ℕ) (q : Queue) (p : Put i q) where
    -- an id without an event
    put_skip : first i ≡ 0 → Put (suc i) q
    put_skip z =
        record {
          sound = p.sound;
          below = λ j t. omega (arith, p.below j t);
          at = p.at;
          present = λ j l m. p.present j (earlier j l m) m;
        }
      where
        earlier : (j : ℕ) → j < suc i → 1 ≤ get_or reach j 0 → j < i
        earlier j l m = go (eqb j i) refl
          where
            go : (b : Bool) → eqb j i ≡ b → j < i
            go true e = let k : j ≡ i = eqb-true j i e in absurd (omega (arith, (each j m).low, ap first k))
            go false e = let n : j ≡ i → ⊥ = eqb-false j i e in omega arith

    -- and one with its event
    module _ (a : 1 ≤ first i) where
      reached : Delayed first reach i
      reached = each i (omega (arith, none i))

      fresh : there i q ≡ false
      fresh = go (there i q) refl
        where
          go : (b : Bool) → there i q ≡ b → b ≡ false
          go true t = absurd (omega (arith, p.below i t))
          go false t = refl

      accepted : (insert_of max_gap longest q i (first i)).refusal.number ≡ 0
      accepted =
          let n : length (events_of q) ≤ i = few_ids i (events_of q) (sound_is max_gap longest q p.sound).distinct p.below in
          let d : first i ≤ longest = omega (arith, reached.high, reached.near) in
          (insert_accepted max_gap longest q i (first i)).1 (
            p.sound,
            λ e. omega (arith, reached.place),
            fresh,
            d,
            insert_room q i (first i) p.sound (omega (arith, reached.place)) d,
          )

      abbrev more : Queue
      more = (insert_of max_gap longest q i (first i)).queue

      here : (there i more ≡ true) × (away i more ≡ first i)
      here = insert_new max_gap longest q i (first i) accepted

      others : (j : ℕ) → j ≢ i → (there j more ≡ there j q) × (away j more ≡ away j q)
      others = insert_others max_gap longest q i (first i) accepted

      put_more : Put (suc i) more
      put_more =
          record {
            sound = insert_sound max_gap longest q i (first i) p.sound;
            below = λ j t. either j (λ e. omega arith) (λ n. omega (arith, p.below j (sym (others j n).0 ∙ t)));
            at = λ j t. either j (λ e. rw e (a, here.1)) (λ n. let w = p.at j (sym (others j n).0 ∙ t) in (w.0, (others j n).1 ∙ w.1));
            present = λ j l m. either j (λ e. rw e here.0) (λ n. (others j n).0 ∙ p.present j (omega arith) m);
          }
        where
          either : {A : Type 0} (j : ℕ) → (j ≡ i → A) → (j ≢ i → A) → A
          either {A} j same other = go (eqb j i) refl
            where
              go : (b : Bool) → eqb j i ≡ b → A
              go true e = same (eqb-true j i e)
              go false e = other (eqb-false j i e)

  put_all : {A : Type 0} (f : A → ℕ) (d : A) (xs : List A) (i : ℕ) (q : Queue) → ((k : ℕ) → f (get_or xs k d) ≡ first (i + k)) → Put i q
      → Put (i + length xs) (put_in f xs i q)
  put_all f d [] i q e p = let z : i + 0 ≡ i = omega arith in rw z p
  put_all f d (x ∷ xs) i q e p =
      let z : i + suc (length xs) ≡ suc i + length xs = omega arith in
      let s : f x ≡ first i = let y : i + 0 ≡ i = omega arith in rw y at (e 0) in
      rw (z, s) (put_all f d xs (suc i) _ rest (go (eqb (first i) 0) refl))
    where
      rest : (k : ℕ) → f (get_or xs k d) ≡ first (suc i + k)
      rest k = let y : i + suc k ≡ suc i + k = omega arith in rw y at (e (suc k))

      go : (b : Bool) → eqb (first i) 0 ≡ b → Put (suc i) (pick b q (insert_of max_gap longest q i (first i)).queue)
      go true n = put_skip i q p (eqb-true (first i) 0 n)
      go false n = let m : first i ≡ 0 → ⊥ = eqb-false (first i) 0 n in put_more i q p (omega arith)

-- an event that is not there is 0 away
absent_away : (es : List Event) (j : ℕ) → hasb j es ≡ false → distance_of j es ≡ 0
absent_away [] j h = refl
absent_away (e ∷ es) j h = rw (neither_left (eqb e.id j) _ h) (absent_away es j (neither_right (eqb e.id j) _ h))

module _ {A : Type 0} (f : A → ℕ) (d : A) (xs : List A) (reach : List ℕ) (zero : f d ≡ 0) (each : (j : ℕ) → 1 ≤ get_or reach j 0 → Delayed (λ (j : ℕ). f (get_or xs j d)) reach j) (none : (j : ℕ) → f (get_or xs j d) ≤ get_or reach j 0) where
  abbrev first : ℕ → ℕ
  first j = f (get_or xs j d)

  all : Put reach first each none (0 + length xs) (fresh_queue f xs)
  unfolding fresh_queue
  all = put_all reach first each none f d xs 0 (queue_of []) (λ k. let y : 0 + k ≡ k = omega arith in rw y) (put_none reach first each none)

  -- the queue of the events put in holds exactly those that have a reach
  pub fresh_held : HeldEach reach (fresh_queue f xs)
  fresh_held =
      record {
        sound = all.sound;
        within = λ j t. let a = all.at j t in (omega (arith, a.0, a.1), omega (arith, a.1, none j));
        present = λ j m. all.present j (inside j m) m;
      }
    where
      inside : (j : ℕ) → 1 ≤ get_or reach j 0 → j < 0 + length xs
      inside j m = go (ltb j (length xs)) refl
        where
          go : (b : Bool) → ltb j (length xs) ≡ b → j < 0 + length xs
          go true l = omega (arith, ltb-true j (length xs) l)
          go false l =
              let e : get_or xs j d ≡ d = get_or-eq_default xs d (ltb-false j (length xs) l) in
              absurd (omega (arith, (each j m).low, ap f e))

  -- each as far away as it was put in
  pub fresh_away : (j : ℕ) → away j (fresh_queue f xs) ≡ f (get_or xs j d)
  fresh_away j = go (there j (fresh_queue f xs)) refl
    where
      go : (b : Bool) → there j (fresh_queue f xs) ≡ b → away j (fresh_queue f xs) ≡ f (get_or xs j d)
      go true t = (all.at j t).1
      go false t = absent_away (events_of (fresh_queue f xs)) j t ∙ sym (unreached (ltb 0 (get_or reach j 0)) refl)
        where
          unreached : (b : Bool) → ltb 0 (get_or reach j 0) ≡ b → f (get_or xs j d) ≡ 0
          unreached true m = contrary (fresh_held.present j (ltb-true 0 (get_or reach j 0) m)) t
          unreached false m = omega (arith, none j, ltb-false 0 (get_or reach j 0) m)

-- ONE SERVER'S ENTRY

-- a first arrival is at most as far away as its reach, and is there where it has one
away_reach : (r : Release) → first_away r ≤ release_reach r
away_reach OnArrival = omega arith
away_reach (Periodic T O) = go (eqb O.0 0) (leb T.0 O.0) refl refl
  where
    go : (z b : Bool) → eqb O.0 0 ≡ z → leb T.0 O.0 ≡ b → pick z T.0 O.0 ≤ pick b O.0 T.0
    go true true e p = leb-true T.0 O.0 p
    go true false e p = omega arith
    go false true e p = omega arith
    go false false e p = omega (arith, leb-false T.0 O.0 p)

away_there : (r : Release) → 1 ≤ period_of r → 1 ≤ first_away r
away_there OnArrival h = absurd (omega arith)
away_there (Periodic T O) h = go (eqb O.0 0) refl
  where
    go : (z : Bool) → eqb O.0 0 ≡ z → 1 ≤ pick z T.0 O.0
    go true e = h
    go false e = let n : O.0 ≡ 0 → ⊥ = eqb-false O.0 0 e in omega arith

-- a task's first work is at most its work
work_within : (r : Release) (E : ℕ) → first_work r E ≤ E
work_within OnArrival E = omega arith
work_within (Periodic T O) E = go (eqb O.0 0)
  where
    go : (z : Bool) → pick z E 0 ≤ E
    go true = omega arith
    go false = omega arith

load_sound_lem : (t : Task) → taskb longest most_work t ≡ true → loadb (fresh_load t) ≡ true
load_sound_lem t h =
    let w = (range_within 1 most_work t.work.0).0 (both_left _ _ h) in
    rw (le-leb (first_work t.release t.work.0) most_pending (omega (arith, w.high, work_within t.release t.work.0)))

load_zero : (t : Task) → zero_taskb t ≡ true → zero_loadb (fresh_load t) ≡ true
load_zero t h = rw ((zero_task_lem t).0 h)

loads_sound_lem : (ts : List Task) (n : ℕ) → usedb (taskb longest most_work) zero_taskb ts n ≡ true → usedb loadb zero_loadb (fresh_loads ts) n ≡ true
loads_sound_lem [] n h = refl
loads_sound_lem (t ∷ ts) zero h = rw (load_zero t (both_left _ _ h)) (loads_sound_lem ts zero (both_right (zero_taskb t) _ h))
loads_sound_lem (t ∷ ts) (suc n) h = rw (load_sound_lem t (both_left _ _ h)) (loads_sound_lem ts n (both_right (taskb longest most_work t) _ h))

module _ (s : Server) (k : ServerStated s) where
  arrival_near : (j : ℕ) → task_away (task_at s j) ≤ get_or (task_reaches s.tasks) j 0
  arrival_near j = rw (task_reach s.tasks j) (away_reach (task_at s j).release)

  arrival_delayed : (j : ℕ) → 1 ≤ get_or (task_reaches s.tasks) j 0 → Delayed (λ (j : ℕ). task_away (task_at s j)) (task_reaches s.tasks) j
  arrival_delayed j m =
      let d = (task_delayed s k j m).1 in
      record { place = d.place; low = away_there (task_at s j).release d.low; high = arrival_near j; near = d.near }

  entry_sound_lem : entryb s (fresh_entry s) ≡ true
  unfolding fresh_entry
  entry_sound_lem =
      lapsed_sound s (filled_entry s) ((entry_stated s (filled_entry s)).1 record {
        budget = omega arith;
        loads = loads_sound_lem s.tasks s.count k.tasks;
        arrivals =
            (held_each (task_reaches s.tasks) (fresh_queue task_away s.tasks)).1
            (fresh_held task_away zero_task s.tasks (task_reaches s.tasks) refl arrival_delayed arrival_near);
      })

  pub entry_away : (j : ℕ) → away j (fresh_entry s).arrivals ≡ task_away (task_at s j)
  unfolding fresh_entry
  entry_away j =
      lapsed_keeps s (filled_entry s) (λ (e : Entry). away j e.arrivals) refl
      ∙ fresh_away task_away zero_task s.tasks (task_reaches s.tasks) refl arrival_delayed arrival_near j

-- THE STATE

pub entries_sound : (ss : List Server) → Every ss → entriesb ss (fresh_entries ss) ≡ true
entries_sound [] k = refl
entries_sound (s ∷ ss) k = rw (entry_sound_lem s k.0) (entries_sound ss k.1)

pub fresh_spent : (ss : List Server) → all_spentb ss (fresh_entries ss) ≡ true
unfolding fresh_entry
fresh_spent [] = refl
fresh_spent (s ∷ ss) = rw (lapsed_spent s (filled_entry s)) (fresh_spent ss)

-- the entry at a place is the fresh one of its server: past the end both are zero
pub entries_fresh : (ss : List Server) (i : ℕ) → get_or (fresh_entries ss) i zero_entry ≡ fresh_entry (get_or ss i zero_server)
unfolding fresh_entry fresh_queue lapsed
entries_fresh [] i = refl
entries_fresh (s ∷ ss) zero = refl
entries_fresh (s ∷ ss) (suc i) = entries_fresh ss i

pub loads_fresh : (ts : List Task) (j : ℕ) → get_or (fresh_loads ts) j zero_load ≡ fresh_load (get_or ts j zero_task)
loads_fresh [] j = refl
loads_fresh (t ∷ ts) zero = refl
loads_fresh (t ∷ ts) (suc j) = loads_fresh ts j

pub every_at : (ss : List Server) → Every ss → (i : ℕ) → ServerStated (get_or ss i zero_server)
every_at [] k i = zero_stated zero_server refl
every_at (s ∷ ss) k zero = k.0
every_at (s ∷ ss) k (suc i) = every_at ss k.1 i

-- a replenishment is no further away than its reach
pub refill_near : (t : Table) (j : ℕ) → period_in t j ≤ get_or (server_reaches t.servers) j 0
refill_near t j = rw (server_reach t.servers j) (omega arith)
