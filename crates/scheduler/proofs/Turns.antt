-- A queue whose due events are taken and put in again, one by one: what one turn does, and what is left when nothing is due. Over any delays: the
-- arrivals of a server and the replenishments go by these laws alike. Assumes nothing.
use mathlib.Core.Path.{◌≡◌, refl, sym, ap, subst, ◌∙◌}
use mathlib.Core.Bool.{Bool, true, false}
use mathlib.Core.List.{List, [], ◌∷◌}
use Prim.Native.Nat.{ℕ, suc, ◌≤◌, ◌<◌}
use native.Mathlib.Omega.{arith}
use lib.Dec.{leb, eqb}
use lib.ListN.{length, get_or}
use borrow.Author.Tests.{ne_eqb}
use Rattle.small.specs.Small.{pick}
use Rattle.small.proofs.Tests.{neither_left, neither_right, contrary}
use Rattle.queue.specs.Limits.{max_gap, longest, filler}
use Rattle.queue.specs.Row.{Event, event, events_of}
use Rattle.queue.specs.Sound.{soundb}
use Rattle.queue.specs.Holds.{holdsb}
use Rattle.queue.specs.Calls.{accepted_with, with_event, earlier, dueb, clock_of, take_of, insert_of}
use Rattle.queue.specs.Steps.{first_cell, due_step, rest_step, tick_step, place_step, again_step}
use Rattle.queue.specs.declared.Queue.{Queue}
use Rattle.queue.specs.Calls.{Changed}
use Rattle.queue.proofs.Events.{with_length}
use Rattle.queue.proofs.Refusals.{take_accepted, clock_accepted}
use Rattle.queue.proofs.Laws.{insert_events, clock_events}
use Rattle.queue.proofs.Keeps.{insert_sound, clock_sound, take_sound}
use Rattle.queue.proofs.DueTimes.{take_first, take_gone}
use Rattle.queue.proofs.Room.{room_for_eight}
use Rattle.queue.proofs.Same.{clock_step, take_step, insert_step}
use Rattle.table.specs.Limits.{entries}
use Rattle.state.specs.Moves.{AllOf}
use Rattle.state.proofs.Stated.{held, within_each}
use Rattle.state.proofs.HeldEach.{HeldEach, held_each, held_few, held_rests}
use Rattle.state.proofs.Delays.{Delayed}
use Rattle.scheduler.specs.Tick.{clocked, due_ids, due_in, put_again, again, turn_of}
use Rattle.scheduler.specs.Moves.{requeued, Turning}
use Rattle.scheduler.proofs.AgainLaws.{ids_with, earlier_length}

-- DUE EVENTS

-- where nothing is at distance 0 no event is due
due_none : (es : List Event) → dueb es ≡ false → due_ids es ≡ []
due_none [] d = refl
due_none (e ∷ es) d = rw (neither_left (eqb e.at 0) _ d) (due_none es (neither_right (eqb e.at 0) _ d))

-- no more events are due than there are
pub due_few : (es : List Event) → length (due_ids es) ≤ length es
due_few [] = omega arith
due_few (e ∷ es) = go (eqb e.at 0) (due_few es)
  where
    go : (b : Bool) → length (due_ids es) ≤ length es → length (pick b (e.id ∷ due_ids es) (due_ids es)) ≤ suc (length es)
    go true r = omega arith
    go false r = omega arith

-- EVENTS OF A KIND

-- an id that is a place of the table, with a delay of 1 to the longest distance
abbrev Placed : (ℕ → ℕ) → ℕ → Type 0
Placed delay id = (id < entries) × ((1 ≤ delay id) × (delay id ≤ longest))

module _ (P : ℕ → Type 0) where
  all_with : (x : Event) (es : List Event) → P x.id → AllOf P es → AllOf P (with_event x es)
  all_with x [] h a = (h, tt)
  all_with x (e ∷ es) h a = go (leb e.at x.at) (all_with x es h a.1)
    where
      go : (b : Bool) → AllOf P (with_event x es) → AllOf P (pick b (e ∷ with_event x es) (x ∷ e ∷ es))
      go true r = (a.0, r)
      go false r = (h, a)

  all_earlier : (es : List Event) → AllOf P es → AllOf P (earlier es)
  all_earlier [] a = tt
  all_earlier (e ∷ es) a = (a.0, all_earlier es a.1)

-- WHAT THE FIRST CELL SAYS

module _ (q : Queue) (s : soundb max_gap longest q ≡ true) where
  due_is : due_step q ≡ true → dueb (events_of q) ≡ true
  due_is d = ((take_accepted max_gap longest q).0 (rw (take_step max_gap longest q (omega arith) s d))).1

  due_not : due_step q ≡ false → dueb (events_of q) ≡ false
  due_not d = ((clock_accepted max_gap longest q).0 (rw (clock_step max_gap longest q (omega arith) s d))).1

  -- where the first cell is not due, nothing is
  pub none_due : due_step q ≡ false → due_ids (events_of q) ≡ []
  none_due d = due_none (events_of q) (due_not d)

  due_free : dueb (events_of q) ≡ false → due_step q ≡ false
  due_free n = go (due_step q) refl
    where
      go : (b : Bool) → due_step q ≡ b → due_step q ≡ false
      go true d = contrary (due_is d) n
      go false d = d

-- ONE TURN

-- the first event is due and is put in again
pub record Turned (delay : ℕ → ℕ) (q : Queue) : Type 0 where
  -- its place is one of the table's
  pub small : (first_cell q).id < entries
  -- the others that are due are still so, in their order, and it is not
  pub first : due_ids (events_of q) ≡ (first_cell q).id ∷ due_ids (events_of (requeued delay q))
  -- there is room for it
  pub again : (put_again delay (first_cell q).id q).queue ≡ requeued delay q
  -- and the queue is again one whose events can be put in again
  pub turning : Turning delay (requeued delay q)

pub turned : (delay : ℕ → ℕ) (q : Queue) → Turning delay q → due_step q ≡ true → Turned delay q
unfolding again_step
turned delay q t d =
    let r = take_of max_gap longest q in
    let taken = take_step max_gap longest q (omega arith) t.sound d in
    let a : r.refusal.number ≡ 0 = rw taken in
    let i : (first_cell q).id ≡ r.id = rw taken in
    let l : rest_step q ≡ r.queue = rw taken in
    let e : events_of q ≡ event r.id 0 ∷ events_of r.queue = take_first max_gap longest q a in
    let each = subst (AllOf (Placed delay)) e t.each in
    let s : soundb max_gap longest r.queue ≡ true = take_sound max_gap longest q t.sound in
    let c = insert_of max_gap longest r.queue r.id (delay r.id) in
    let n : c.refusal.number ≡ 0 = room_for_eight q (delay r.id) t.sound (due_is q t.sound d) each.0.1.1 t.few in
    let p : c ≡ place_step max_gap r.queue r.id (delay r.id) =
    insert_step max_gap longest r.queue (omega arith) s r.id (delay r.id) (ne_eqb r.id filler (λ z. omega (arith, each.0.0))) (take_gone max_gap longest q a) each.0.1.1 in
    let x = event r.id (delay r.id) in
    let m : events_of c.queue ≡ with_event x (events_of r.queue) = insert_events max_gap longest r.queue r.id (delay r.id) n in
    let q' : requeued delay q ≡ c.queue = (λ j. (place_step max_gap (l j) (i j) (delay (i j))).queue) ∙ sym (ap (λ (y : Changed). y.queue) p) in
    record {
      small = rw i each.0.0;
      first = rw (q', i, m, ids_with x (events_of r.queue) (ne_eqb x.at 0 (λ z. omega (arith, each.0.1.0))), e);
      again = rw (q', i);
      turning = rw q' record {
        sound = insert_sound max_gap longest r.queue r.id (delay r.id) s;
        few = rw (m, with_length x (events_of r.queue)) (omega (arith, t.few, ap length e));
        each = rw m (all_with _ x (events_of r.queue) each.0 each.1);
      };
    }

-- ALL TURNS

module _ (delay : ℕ → ℕ) where
  -- what a queue comes to when all its due events are put in again
  abbrev pub came_to : Queue → Queue
  came_to q = again delay (due_ids (events_of q)) q

  -- it comes to the same after one turn
  pub came_more : (q : Queue) → Turned delay q → came_to q ≡ came_to (requeued delay q)
  came_more q t = rw t.first (ap (again delay (due_ids (events_of (requeued delay q)))) t.again)

-- THE CLOCK

-- of a queue that holds what it is to hold
module _ (reach : List ℕ) (q : Queue) (h : holdsb max_gap longest reach q ≡ true) where
  holding : HeldEach reach q
  holding = (held_each reach q).0 h

  -- the clock is the tick
  clock_accepts : clock_of max_gap longest q ≡ accepted_with (tick_step q)
  clock_accepts = clock_step max_gap longest q (omega arith) holding.sound (due_free q holding.sound (held_rests reach q holding))

  clocked_is : clocked q ≡ tick_step q
  clocked_is = ap (λ (c : Changed). c.queue) clock_accepts

  pub due_in_lem : due_in q ≡ due_ids (events_of (tick_step q))
  due_in_lem = ap (λ (p : Queue). due_ids (events_of p)) clocked_is

  module _ (delay : ℕ → ℕ) where
    pub turn_is : turn_of delay q ≡ came_to delay (tick_step q)
    unfolding turn_of
    turn_is = ap (came_to delay) clocked_is

    -- after it its events can be put in again
    pub ticked_turning : ((id : ℕ) → 1 ≤ get_or reach id 0 → Delayed delay reach id) → Turning delay (tick_step q)
    ticked_turning f =
        let e : events_of (clocked q) ≡ earlier (events_of q) = clock_events max_gap longest q (omega arith) (rw clock_accepts) in
        let each = within_each (Placed delay) reach (events_of q) (λ id at l m. placed (f id (omega arith))) ((held reach q).0 h).within in
        let t : Turning delay (clocked q) = record {
          sound = clock_sound max_gap longest q (omega arith) holding.sound;
          few = rw (e, earlier_length (events_of q)) (held_few reach q holding entries (λ id r. (f id r).place));
          each = rw e (all_earlier (Placed delay) (events_of q) each);
        } in
        rw clocked_is at t
      where
        placed : {id : ℕ} → Delayed delay reach id → Placed delay id
        placed d = (d.place, (d.low, omega (arith, d.high, d.near)))
