-- "All others keep their distance": every event keeps its due time under every call that does not take or remove it, however many fillers stand
-- between, and events due at the same time stand in the order in which they were put in. M is the largest gap and D the longest distance. Assumes nothing.
use mathlib.Core.Path.{◌≡◌, refl, sym, ap, ◌∙◌}
use mathlib.Core.Bool.{Bool, true, false, not}
use mathlib.Core.List.{List, [], ◌∷◌}
use mathlib.Core.Logic.{◌≢◌}
use Prim.Native.Nat.{ℕ, ◌+◌, ◌≤◌, ◌<◌}
use native.Mathlib.Omega.{arith}
use lib.Dec.{leb, eqb}
use borrow.Author.Tests.{ne_eqb, leb-true, leb-false, not-true}
use Rattle.small.specs.Small.{pick}
use Rattle.small.proofs.Tests.{both_left}
use Rattle.refusal.specs.Refusal.{first_of}
use Rattle.queue.specs.Row.{Event, event, cells_of, events_of}
use Rattle.queue.specs.Sound.{hasb, distinctb}
use Rattle.queue.specs.Calls.{with_event, distance_of}
use Rattle.queue.specs.Calls.{find_checks}
use Rattle.queue.specs.Calls.{insert_of, remove_of, time_left_of, clock_of, take_of, push_back_of}
use Rattle.queue.specs.declared.Queue.{Queue}
use Rattle.queue.specs.Meaning.{Sorted, there, away, AllBeyond, PutIn}
use Rattle.queue.proofs.Normal.{sorted_events}
use Rattle.queue.proofs.SoundLaws.{sound_is}
use Rattle.queue.proofs.Events.{with_has, with_distance, with_new, without_has, without_distance, without_gone, earlier_has, earlier_distance, later_has, later_distance, due_first}
use Rattle.queue.proofs.Refusals.{insert_accepted, remove_accepted, clock_accepted, take_accepted}
use Rattle.queue.proofs.Answers.{left_next}
use Rattle.queue.proofs.Laws.{insert_events, remove_events, clock_events, take_id, take_events, push_back_events}

sorted_beyond : (d t : ℕ) (es : List Event) → d < t → Sorted t es → AllBeyond d es
sorted_beyond d t [] h s = tt
sorted_beyond d t (e ∷ es) h s = (omega (arith, s.0), sorted_beyond d e.at es (omega (arith, s.0)) s.1)

with_split : (t : ℕ) (x : Event) (es : List Event) → Sorted t es → PutIn x es (with_event x es)
with_split t x [] s = record { before = []; behind = []; old = refl; new = refl; within = tt; beyond = tt }
with_split t x (e ∷ es) s = go (leb e.at x.at) refl (with_split e.at x es s.1)
  where
    go : (b : Bool) → leb e.at x.at ≡ b → PutIn x es (with_event x es) → PutIn x (e ∷ es) (pick b (e ∷ with_event x es) (x ∷ e ∷ es))
    go true p r =
        record {
          before = e ∷ r.before;
          behind = r.behind;
          old = ap {B = List Event} (λ l. e ∷ l) r.old;
          new = ap {B = List Event} (λ l. e ∷ l) r.new;
          within = (leb-true e.at x.at p, r.within);
          beyond = r.beyond;
        }
    go false p r =
        let h : x.at < e.at = leb-false e.at x.at p in
        record { before = []; behind = e ∷ es; old = refl; new = refl; within = tt; beyond = (h, sorted_beyond x.at e.at es h s.1) }

-- INSERT

module _ (M D : ℕ) (q : Queue) (id delay : ℕ) where
  -- "All others keep their distance"
  pub insert_others : let r = insert_of M D q id delay in r.refusal.number ≡ 0
      → (j : ℕ) → j ≢ id → (there j r.queue ≡ there j q) × (away j r.queue ≡ away j q)
  insert_others a j n =
      let f : eqb id j ≡ false = ne_eqb id j (λ e. n (sym e)) in
      rw (insert_events M D q id delay a) (with_has j (event id delay) (events_of q) f, with_distance j (event id delay) (events_of q) f)

  -- "the event stands at that distance"
  pub insert_new : let r = insert_of M D q id delay in r.refusal.number ≡ 0 → (there id r.queue ≡ true) × (away id r.queue ≡ delay)
  insert_new a = rw (insert_events M D q id delay a) (with_new (event id delay) (events_of q) ((insert_accepted M D q id delay).0 a).2)

  -- "behind all that are due at the same time": so "events at equal distance stand in the order in which they were put in"
  pub insert_behind : let r = insert_of M D q id delay in r.refusal.number ≡ 0 → PutIn (event id delay) (events_of q) (events_of r.queue)
  insert_behind a = rw (insert_events M D q id delay a) (with_split 0 (event id delay) (events_of q) (sorted_events 0 (cells_of q)))

-- REMOVE, TIME LEFT

module _ (M D : ℕ) (q : Queue) (id : ℕ) where
  -- the others keep their distance
  pub remove_others : let r = remove_of M D q id in 1 ≤ M → r.refusal.number ≡ 0
      → (j : ℕ) → j ≢ id → (there j r.queue ≡ there j q) × (away j r.queue ≡ away j q)
  remove_others m a j n =
      let f : eqb id j ≡ false = ne_eqb id j (λ e. n (sym e)) in
      rw (remove_events M D q id m a) (without_has id j (events_of q) f, without_distance id j (events_of q) f)

  -- and the one that is removed is there no more
  pub remove_gone : let r = remove_of M D q id in 1 ≤ M → r.refusal.number ≡ 0 → there id r.queue ≡ false
  remove_gone m a = rw (remove_events M D q id m a) (without_gone id (events_of q) (sound_is M D q ((remove_accepted M D q id).0 a).0).distinct)

  -- time left is the event's distance
  pub time_left_away : let r = time_left_of M D q id in r.refusal.number ≡ 0 → r.distance.0 ≡ away id q
  unfolding time_left_of
  time_left_away a = left_next (first_of (find_checks M D q id)) (distance_of id (events_of q)) a

-- CLOCK, TAKE, PUSH BACK

module _ (M D : ℕ) (q : Queue) where
  -- "every distance falls by 1", and the time is 1 later: so the due time is the same
  pub clock_others : let r = clock_of M D q in 1 ≤ M → r.refusal.number ≡ 0
      → (j : ℕ) → (there j r.queue ≡ there j q) × (there j q ≡ true → away j r.queue + 1 ≡ away j q)
  clock_others m a j =
      rw (clock_events M D q m a) (earlier_has j (events_of q), earlier_distance j (events_of q) ((clock_accepted M D q).0 a).1)

  -- "the first event at distance 0 is taken out": it stands first, and what stands behind it is left
  pub take_first : let r = take_of M D q in r.refusal.number ≡ 0 → events_of q ≡ event r.id 0 ∷ events_of r.queue
  take_first a = rw (take_id M D q a, take_events M D q a) (due_first (events_of q) (sorted_events 0 (cells_of q)) ((take_accepted M D q).0 a).1)

  -- the others keep their distance
  pub take_others : let r = take_of M D q in r.refusal.number ≡ 0
      → (j : ℕ) → j ≢ r.id → (there j r.queue ≡ there j q) × (away j r.queue ≡ away j q)
  take_others a j n =
      let r = take_of M D q in
      let f : eqb r.id j ≡ false = ne_eqb r.id j (λ e. n (sym e)) in
      let h : there j q ≡ pick (eqb r.id j) true (there j r.queue) = ap (hasb j) (take_first a) in
      let d : away j q ≡ pick (eqb r.id j) 0 (away j r.queue) = ap (distance_of j) (take_first a) in
      (sym (rw f at h), sym (rw f at d))

  -- and the one that is taken is there no more
  pub take_gone : let r = take_of M D q in r.refusal.number ≡ 0 → there r.id r.queue ≡ false
  take_gone a =
      let r = take_of M D q in
      let d : distinctb (event r.id 0 ∷ events_of r.queue) ≡ true = ap distinctb (sym (take_first a)) ∙ (sound_is M D q ((take_accepted M D q).0 a).0).distinct in
      not-true _ (both_left (not (there r.id r.queue)) _ d)

  -- "every distance grows by 1", as it was a tick ago
  pub push_back_others : let r = push_back_of M D q in r.refusal.number ≡ 0
      → (j : ℕ) → (there j r.queue ≡ there j q) × (there j q ≡ true → away j r.queue ≡ away j q + 1)
  push_back_others a j = rw (push_back_events M D q a) (later_has j (events_of q), later_distance j (events_of q))
