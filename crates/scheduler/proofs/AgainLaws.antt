-- Step 4 of one queue: it is clocked, and each event that is due is put in again. Nothing is refused, the same ids are there, and an event that was 1 away
-- is its delay away, every other 1 less. Assumes nothing.
use mathlib.Core.Path.{◌≡◌, refl, sym, ap, ◌∙◌}
use mathlib.Core.Bool.{Bool, true, false, not}
use mathlib.Core.List.{List, [], ◌∷◌}
use Prim.Native.Nat.{ℕ, suc, ◌+◌, ◌-◌, ◌≤◌}
use native.Mathlib.Omega.{arith}
use lib.Dec.{leb, eqb}
use lib.ListN.{length, get_or}
use borrow.Author.Tests.{eq-eqb, ne_eqb, eqb-true, eqb-false, not-true}
use Rattle.small.specs.Small.{pick, both}
use Rattle.small.proofs.Tests.{both_left, both_right, neither_left, neither_right, contrary}
use Rattle.queue.specs.Limits.{max_gap, longest}
use Rattle.queue.specs.Row.{Event, event, events_of}
use Rattle.queue.specs.Sound.{hasb, distinctb, soundb}
use Rattle.queue.specs.Calls.{with_event, distance_of, dueb, earlier, clock_of, take_of, insert_of}
use Rattle.queue.specs.declared.Queue.{Queue}
use Rattle.queue.specs.Calls.{Changed}
use Rattle.queue.proofs.SoundLaws.{sound_is}
use Rattle.queue.proofs.Events.{with_length}
use Rattle.queue.proofs.Refusals.{clock_accepted, take_accepted}
use Rattle.queue.proofs.Laws.{clock_events, insert_events}
use Rattle.queue.proofs.Keeps.{clock_sound, take_sound, insert_sound}
use Rattle.queue.specs.Meaning.{there, away}
use Rattle.queue.proofs.DueTimes.{clock_others, take_first, take_others, insert_others, insert_new}
use Rattle.queue.proofs.Room.{room_for_eight}
use Rattle.table.specs.Limits.{entries}
use Rattle.state.proofs.Delays.{Delayed}
use Rattle.state.proofs.HeldEach.{HeldEach, held_reached, held_few, held_rests}
use Rattle.scheduler.specs.Tick.{clocked, due_ids, due_in, again, roomyb, turn_of, room_of}

-- THE DUE IDS

ids_none : (es : List Event) → due_ids es ≡ [] → dueb es ≡ false
ids_none [] h = refl
ids_none (e ∷ es) h = go (eqb e.at 0) h (ids_none es)
  where
    go : (b : Bool) → pick b (e.id ∷ due_ids es) (due_ids es) ≡ [] → (due_ids es ≡ [] → dueb es ≡ false) → pick b true (dueb es) ≡ false
    go true k r = cc
    go false k r = r k

ids_some : (es : List Event) (id : ℕ) (ids : List ℕ) → due_ids es ≡ id ∷ ids → dueb es ≡ true
ids_some [] id ids h = cc
ids_some (e ∷ es) id ids h = go (eqb e.at 0) h (ids_some es id ids)
  where
    go : (b : Bool) → pick b (e.id ∷ due_ids es) (due_ids es) ≡ id ∷ ids → (due_ids es ≡ id ∷ ids → dueb es ≡ true) → pick b true (dueb es) ≡ true
    go true k r = refl
    go false k r = r k

pub ids_with : (x : Event) (es : List Event) → eqb x.at 0 ≡ false → due_ids (with_event x es) ≡ due_ids es
ids_with x [] h = rw h
ids_with x (e ∷ es) h = go (leb e.at x.at) (ids_with x es h)
  where
    go : (b : Bool) → due_ids (with_event x es) ≡ due_ids es → due_ids (pick b (e ∷ with_event x es) (x ∷ e ∷ es)) ≡ due_ids (e ∷ es)
    go true r = ap (λ (l : List ℕ). pick (eqb e.at 0) (e.id ∷ l) l) r
    go false r = rw h

-- an id of the list
abbrev pub inb : ℕ → List ℕ → Bool
inb j [] = false
inb j (id ∷ ids) = pick (eqb id j) true (inb j ids)

-- the due ids are those of the events at distance 0
pub ids_in : (j : ℕ) (es : List Event) → distinctb es ≡ true → inb j (due_ids es) ≡ both (hasb j es) (eqb (distance_of j es) 0)
ids_in j [] d = refl
ids_in j (e ∷ es) d = go (eqb e.at 0) (eqb e.id j) refl refl (ids_in j es (both_right (not (hasb e.id es)) _ d))
  where
    gone : eqb e.id j ≡ true → hasb j es ≡ false
    gone p = rw (← eqb-true e.id j p) (not-true _ (both_left (not (hasb e.id es)) _ d))

    go : (z b : Bool) → eqb e.at 0 ≡ z → eqb e.id j ≡ b → inb j (due_ids es) ≡ both (hasb j es) (eqb (distance_of j es) 0)
        → inb j (pick z (e.id ∷ due_ids es) (due_ids es)) ≡ both (pick b true (hasb j es)) (eqb (pick b e.at (distance_of j es)) 0)
    go true true p i r = rw (p, i)
    go true false p i r = rw i r
    go false true p i r = rw p (r ∙ rw (gone i))
    go false false p i r = r

-- an event that is not due is further away than 0
rests_away : (es : List Event) → dueb es ≡ false → (j : ℕ) → hasb j es ≡ true → eqb (distance_of j es) 0 ≡ false
rests_away [] d j h = contrary h refl
rests_away (e ∷ es) d j h = go (eqb e.id j) h (rests_away es (neither_right (eqb e.at 0) _ d) j)
  where
    go : (b : Bool) → pick b true (hasb j es) ≡ true → (hasb j es ≡ true → eqb (distance_of j es) 0 ≡ false) → eqb (pick b e.at (distance_of j es)) 0 ≡ false
    go true k r = neither_left (eqb e.at 0) _ d
    go false k r = r k

pub earlier_length : (es : List Event) → length (earlier es) ≡ length es
earlier_length [] = refl
earlier_length (e ∷ es) = ap suc (earlier_length es)

-- what is due after the tick was 1 away before it
pub one_away : (c d : ℕ) → c + 1 ≡ d → eqb c 0 ≡ eqb d 1
one_away c d e = go (eqb c 0) refl
  where
    go : (b : Bool) → eqb c 0 ≡ b → b ≡ eqb d 1
    go true p = let z : c ≡ 0 = eqb-true c 0 p in sym (eq-eqb d 1 (omega arith))
    go false p = let n : c ≡ 0 → ⊥ = eqb-false c 0 p in sym (ne_eqb d 1 (λ x. n (omega arith)))

one_nearer : (c d a : ℕ) → c + 1 ≡ d → pick (eqb c 0) a c ≡ pick (eqb d 1) a (d - 1)
one_nearer c d a e = let n : d - 1 ≡ c = omega arith in rw (one_away c d e, n)

-- ONE EVENT AFTER ANOTHER

module _ (delay : ℕ → ℕ) where
  -- a queue whose events can be put in again: sound, of at most 8 events, whose delays are 1 to the longest distance
  pub record Fit (q : Queue) : Type 0 where
    pub sound : soundb max_gap longest q ≡ true
    pub few : length (events_of q) ≤ entries
    pub each : (j : ℕ) → there j q ≡ true → (1 ≤ delay j) × (delay j ≤ longest)

  -- the queue p is q with its due events put in again
  pub record PutAgain (q p : Queue) : Type 0 where
    pub sound : soundb max_gap longest p ≡ true
    pub same : (j : ℕ) → there j p ≡ there j q
    pub moved : (j : ℕ) → there j q ≡ true → away j p ≡ pick (eqb (away j q) 0) (delay j) (away j q)

  module _ (q : Queue) (f : Fit q) (id : ℕ) (ids : List ℕ) (due : due_ids (events_of q) ≡ id ∷ ids) where
    abbrev left : Queue
    left = (take_of max_gap longest q).queue

    abbrev next : Changed
    next = insert_of max_gap longest left id (delay id)

    is_due : dueb (events_of q) ≡ true
    is_due = ids_some (events_of q) id ids due

    taken : (take_of max_gap longest q).refusal.number ≡ 0
    taken = (take_accepted max_gap longest q).1 (f.sound, is_due)

    first : events_of q ≡ event (take_of max_gap longest q).id 0 ∷ events_of left
    first = take_first max_gap longest q taken

    both_ids : (take_of max_gap longest q).id ∷ due_ids (events_of left) ≡ id ∷ ids
    both_ids = sym (ap due_ids first) ∙ due

    the_id : (take_of max_gap longest q).id ≡ id
    the_id = let e = both_ids in cc

    is_there : there id q ≡ true
    is_there = ap (hasb id) first ∙ rw (eq-eqb (take_of max_gap longest q).id id the_id)

    the_ids : due_ids (events_of left) ≡ ids
    the_ids = let e = both_ids in cc

    accepted : next.refusal.number ≡ 0
    accepted =
        let l = (f.each id is_there).1 in
        rw the_id at (room_for_eight q (delay id) f.sound is_due l f.few)

    after : events_of next.queue ≡ with_event (event id (delay id)) (events_of left)
    after = insert_events max_gap longest left id (delay id) accepted

    same_there : (j : ℕ) → there j next.queue ≡ there j q
    same_there j = go (eqb id j) refl
      where
        go : (b : Bool) → eqb id j ≡ b → there j next.queue ≡ there j q
        go true p = rw (← eqb-true id j p) ((insert_new max_gap longest left id (delay id) accepted).0 ∙ sym is_there)
        go false p =
            let n : j ≡ id → ⊥ = λ e. eqb-false id j p (sym e) in
            (insert_others max_gap longest left id (delay id) accepted j n).0 ∙ (take_others max_gap longest q taken j (rw the_id n)).0

    -- where the event was, it is its delay away; every other is where it was
    moved_one : (j : ℕ) → away j next.queue ≡ pick (eqb id j) (delay j) (away j q)
    moved_one j = go (eqb id j) refl
      where
        go : (b : Bool) → eqb id j ≡ b → away j next.queue ≡ pick b (delay j) (away j q)
        go true p = rw (← eqb-true id j p) (insert_new max_gap longest left id (delay id) accepted).1
        go false p =
            let n : j ≡ id → ⊥ = λ e. eqb-false id j p (sym e) in
            (insert_others max_gap longest left id (delay id) accepted j n).1 ∙ (take_others max_gap longest q taken j (rw the_id n)).1

    was_due : away id q ≡ 0
    was_due = ap (distance_of id) first ∙ rw (eq-eqb (take_of max_gap longest q).id id the_id)

    next_fit : Fit next.queue
    next_fit =
        record {
          sound = insert_sound max_gap longest left id (delay id) (take_sound max_gap longest q f.sound);
          few = rw (after, with_length (event id (delay id)) (events_of left)) (omega (arith, ap length first, f.few));
          each = λ j h. f.each j (sym (same_there j) ∙ h);
        }

    next_ids : due_ids (events_of next.queue) ≡ ids
    next_ids =
        let l = (f.each id is_there).0 in
        rw (after, ids_with (event id (delay id)) (events_of left) (ne_eqb (delay id) 0 (λ e. omega arith))) the_ids

    more : (p : Queue) → PutAgain next.queue p → PutAgain q p
    more p r = record { sound = r.sound; same = λ j. r.same j ∙ same_there j; moved = moved_all }
      where
        moved_all : (j : ℕ) → there j q ≡ true → away j p ≡ pick (eqb (away j q) 0) (delay j) (away j q)
        moved_all j h = go (eqb id j) refl (moved_one j)
          where
            go : (b : Bool) → eqb id j ≡ b → away j next.queue ≡ pick b (delay j) (away j q) → away j p ≡ pick (eqb (away j q) 0) (delay j) (away j q)
            go true e m =
                let z : eqb (away j q) 0 ≡ true = rw (← eqb-true id j e) (eq-eqb (away id q) 0 was_due) in
                let l = (f.each j h).0 in
                let n : eqb (delay j) 0 ≡ false = ne_eqb (delay j) 0 (λ x. omega arith) in
                rw z (rw (m, n) at (r.moved j (same_there j ∙ h)))
            go false e m = rw m at (r.moved j (same_there j ∙ h))

  again_all : (ids : List ℕ) (q : Queue) → Fit q → due_ids (events_of q) ≡ ids → (roomyb delay ids q ≡ true) × PutAgain q (again delay ids q)
  again_all [] q f d = (refl, record { sound = f.sound; same = λ j. refl; moved = λ j h. rw (rests_away (events_of q) (ids_none (events_of q) d) j h) })
  again_all (id ∷ ids) q f d =
      let r = again_all ids (next q f id ids d).queue (next_fit q f id ids d) (next_ids q f id ids d) in
      (rw (eq-eqb _ 0 (accepted q f id ids d)) r.0, more q f id ids d _ r.1)

  -- STEP 4 OF ONE QUEUE

  -- the queue p is q after a tick: what was 1 away is its delay away, and everything else 1 nearer
  pub record Moved (q p : Queue) : Type 0 where
    pub sound : soundb max_gap longest p ≡ true
    pub same : (j : ℕ) → there j p ≡ there j q
    pub moved : (j : ℕ) → there j q ≡ true → away j p ≡ pick (eqb (away j q) 1) (delay j) (away j q - 1)

  module _ (q : Queue) (f : Fit q) (rests : dueb (events_of q) ≡ false) where
    ticked : (clock_of max_gap longest q).refusal.number ≡ 0
    ticked = (clock_accepted max_gap longest q).1 (f.sound, rests)

    nearer : (j : ℕ) → (there j (clocked q) ≡ there j q) × (there j q ≡ true → away j (clocked q) + 1 ≡ away j q)
    nearer j = clock_others max_gap longest q (omega arith) ticked j

    clocked_fit : Fit (clocked q)
    clocked_fit =
        record {
          sound = clock_sound max_gap longest q (omega arith) f.sound;
          few = rw (clock_events max_gap longest q (omega arith) ticked, earlier_length (events_of q)) f.few;
          each = λ j h. f.each j (sym (nearer j).0 ∙ h);
        }

    turn_all : (room_of delay q ≡ true) × PutAgain (clocked q) (turn_of delay q)
    unfolding turn_of room_of
    turn_all = again_all (due_in q) (clocked q) clocked_fit refl

    -- no event that is put in again is refused
    pub turn_accepted : room_of delay q ≡ true
    turn_accepted = turn_all.0

    pub turn_moved : Moved q (turn_of delay q)
    turn_moved =
        let r = turn_all.1 in
        record { sound = r.sound; same = λ j. r.same j ∙ (nearer j).0; moved = λ j h. moved j h (r.moved j ((nearer j).0 ∙ h)) }
      where
        moved : (j : ℕ) → there j q ≡ true → let p = turn_of delay q in let c = away j (clocked q) in away j p ≡ pick (eqb c 0) (delay j) c → away j p ≡ pick (eqb (away j q) 1) (delay j) (away j q - 1)
        moved j h e =
            e ∙ one_nearer (away j (clocked q)) (away j q) (delay j) ((nearer j).1 h)

-- A QUEUE THAT HOLDS ITS EVENTS

-- an event is due in the tick exactly where it is 1 away
pub held_due : (reach : List ℕ) (q : Queue) → HeldEach reach q → (j : ℕ) → inb j (due_in q) ≡ both (there j q) (eqb (away j q) 1)
held_due reach q h j =
    let s : soundb max_gap longest (clocked q) ≡ true = clock_sound max_gap longest q (omega arith) h.sound in
    let n = clock_others max_gap longest q (omega arith) ((clock_accepted max_gap longest q).1 (h.sound, held_rests reach q h)) j in
    ids_in j (events_of (clocked q)) (sound_is max_gap longest (clocked q) s).distinct ∙ go (there j q) refl n
  where
    go : (b : Bool) → there j q ≡ b → (there j (clocked q) ≡ there j q) × (there j q ≡ true → away j (clocked q) + 1 ≡ away j q)
        → both (there j (clocked q)) (eqb (away j (clocked q)) 0) ≡ both (there j q) (eqb (away j q) 1)
    go true k n = rw (n.0, k) (one_away (away j (clocked q)) (away j q) (n.1 k))
    go false k n = rw (n.0, k)

module _ (delay : ℕ → ℕ) (reach : List ℕ) where
  module _ (q : Queue) (h : HeldEach reach q) (each : (j : ℕ) → 1 ≤ get_or reach j 0 → Delayed delay reach j) where
    held_fit : Fit delay q
    held_fit =
        record {
          sound = h.sound;
          few = held_few reach q h entries (λ j m. (each j m).place);
          each = λ j t. let d = each j (held_reached reach q h j t) in (d.low, omega (arith, d.high, d.near));
        }

    pub held_accepted : room_of delay q ≡ true
    held_accepted = turn_accepted delay q held_fit (held_rests reach q h)

    pub held_moved : Moved delay q (turn_of delay q)
    held_moved = turn_moved delay q held_fit (held_rests reach q h)

    -- it holds the same events, each still within its reach
    pub held_again : HeldEach reach (turn_of delay q)
    held_again = record { sound = t.sound; within = within; present = λ j m. t.same j ∙ h.present j m }
      where
        t : Moved delay q (turn_of delay q)
        t = held_moved

        within : (j : ℕ) → there j (turn_of delay q) ≡ true → (1 ≤ away j (turn_of delay q)) × (away j (turn_of delay q) ≤ get_or reach j 0)
        within j k = let k' : there j q ≡ true = sym (t.same j) ∙ k in rw (t.moved j k') (go (eqb (away j q) 1) refl k')
          where
            go : (b : Bool) → eqb (away j q) 1 ≡ b → there j q ≡ true → let a = pick b (delay j) (away j q - 1) in (1 ≤ a) × (a ≤ get_or reach j 0)
            go true p k' = let d = each j (held_reached reach q h j k') in (d.low, d.high)
            go false p k' =
                let n : away j q ≡ 1 → ⊥ = eqb-false (away j q) 1 p in
                let w = h.within j k' in
                (omega arith, omega arith)
