-- What each accepted call makes of a sound queue: a queue that is sound, and has these events. Keeps and Laws say the two apart. M is the largest gap and D the
-- longest distance. Assumes nothing.
use mathlib.Core.Path.{◌≡◌, ap, subst, ◌∙◌}
use mathlib.Core.Bool.{true, not}
use mathlib.Core.List.{List, ◌∷◌}
use Prim.Native.Nat.{ℕ, ◌≤◌}
use native.Mathlib.Omega.{arith}
use lib.Dec.{leb}
use lib.ListN.{length, length-append}
use borrow.Author.Tests.{ne_eqb, le-leb}
use Rattle.small.proofs.Tests.{both_right}
use Rattle.refusal.specs.Refusal.{first_of}
use Rattle.queue.specs.Limits.{cell_count, filler}
use Rattle.queue.specs.Row.{Event, event, cells_of, events_of, normal}
use Rattle.queue.specs.Sound.{hasb, distinctb, nearb, soundb}
use Rattle.queue.specs.Calls.{formed}
use Rattle.queue.specs.Calls.{with_event, without_event, earlier, due_id, without_due, later}
use Rattle.queue.specs.Calls.{insert_checks, find_checks, clock_checks, take_checks, push_checks}
use Rattle.queue.specs.Calls.{insert_of, remove_of, clock_of, take_of, push_back_of}
use Rattle.queue.specs.declared.Queue.{Queue}
use Rattle.queue.proofs.Cells.{made_len}
use Rattle.queue.specs.Meaning.{Sorted}
use Rattle.queue.proofs.Normal.{Proper, sorted_from, sorted_events, proper_events}
use Rattle.queue.proofs.SoundLaws.{Sound, sound_is, sound_made, events_made}
use Rattle.queue.proofs.Events.{with_sorted, with_proper, with_near, with_distinct, without_sorted, without_proper, without_near, without_distinct, without_fewer}
use Rattle.queue.proofs.Events.{earlier_sorted, earlier_proper, earlier_near, earlier_distinct, earlier_fewer, later_sorted, later_proper, later_near, later_distinct, due_first}
use Rattle.queue.proofs.Refusals.{insert_accepted, remove_accepted, clock_accepted, take_accepted, push_back_accepted}
use Rattle.queue.proofs.Answers.{changed_next, taken_next}

-- a queue made of events that are in order, no fillers, near, distinct and few enough is sound and has these events
abbrev pub Makes : ℕ → ℕ → Queue → List Event → Type 0
Makes M D r es = (soundb M D r ≡ true) × (events_of r ≡ es)

makes : (M D : ℕ) (r : Queue) (es : List Event) → r ≡ formed M es → Sorted 0 es → Proper es → nearb D es ≡ true → distinctb es ≡ true
    → length (normal M 0 es) ≤ cell_count → Makes M D r es
makes M D r es e s p n d h = (rw e (sound_made M D es s p n d h), ap events_of e ∙ events_made M es s p)

-- how many cells a sound queue's events need
sound_length : (M D : ℕ) (q : Queue) → Sound M D q → length (normal M 0 (events_of q)) ≤ cell_count
sound_length M D q s = let e : q.len ≡ length (normal M 0 (events_of q)) = made_len q (normal M 0 (events_of q)) s.form in omega (arith, s.short)

module _ (M D : ℕ) (q : Queue) (id delay : ℕ) where
  pub insert_makes : (insert_of M D q id delay).refusal.number ≡ 0 → Makes M D (insert_of M D q id delay).queue (with_event (event id delay) (events_of q))
  unfolding insert_of
  insert_makes a =
      let es = events_of q in
      let x = event id delay in
      let h = (insert_accepted M D q id delay).0 a in
      let s = sound_is M D q h.0 in
      makes M D _ (with_event x es)
      (changed_next (first_of (insert_checks M D q id delay)) q (formed M (with_event x es)) a)
      (with_sorted 0 x es (omega arith) (sorted_events 0 (cells_of q)))
      (with_proper x es (ne_eqb id filler h.1) (proper_events 0 (cells_of q)))
      (with_near D x es (le-leb delay D h.3) s.near)
      (with_distinct x es h.2 s.distinct)
      h.4

module _ (M D : ℕ) (q : Queue) (id : ℕ) (m : 1 ≤ M) where
  pub remove_makes : (remove_of M D q id).refusal.number ≡ 0 → Makes M D (remove_of M D q id).queue (without_event id (events_of q))
  unfolding remove_of
  remove_makes a =
      let es = events_of q in
      let s = sound_is M D q ((remove_accepted M D q id).0 a).0 in
      makes M D _ (without_event id es)
      (changed_next (first_of (find_checks M D q id)) q (formed M (without_event id es)) a)
      (without_sorted 0 id es (sorted_events 0 (cells_of q)))
      (without_proper id es (proper_events 0 (cells_of q)))
      (without_near D id es s.near)
      (without_distinct id es s.distinct)
      (omega (arith, without_fewer M 0 id es m (sorted_events 0 (cells_of q)), sound_length M D q s))

module _ (M D : ℕ) (q : Queue) (m : 1 ≤ M) where
  pub clock_makes : (clock_of M D q).refusal.number ≡ 0 → Makes M D (clock_of M D q).queue (earlier (events_of q))
  unfolding clock_of
  clock_makes a =
      let es = events_of q in
      let h = (clock_accepted M D q).0 a in
      let s = sound_is M D q h.0 in
      makes M D _ (earlier es)
      (changed_next (first_of (clock_checks M D q)) q (formed M (earlier es)) a)
      (earlier_sorted 0 0 es (omega arith) (sorted_events 0 (cells_of q)))
      (earlier_proper es (proper_events 0 (cells_of q)))
      (earlier_near D es s.near)
      (earlier_distinct es ∙ s.distinct)
      (omega (arith, earlier_fewer M es m (sorted_events 0 (cells_of q)) h.1, sound_length M D q s))

module _ (M D : ℕ) (q : Queue) where
  pub take_makes : (take_of M D q).refusal.number ≡ 0 → Makes M D (take_of M D q).queue (without_due (events_of q))
  unfolding take_of
  take_makes a =
      let es = events_of q in
      let h = (take_accepted M D q).0 a in
      let s = sound_is M D q h.0 in
      let e : es ≡ event (due_id es) 0 ∷ without_due es = due_first es (sorted_events 0 (cells_of q)) h.1 in
      let l : length (normal M 0 (event (due_id es) 0 ∷ without_due es)) ≤ cell_count = subst (λ (l : List Event). length (normal M 0 l) ≤ cell_count) e (sound_length M D q s) in
      makes M D _ (without_due es)
      (taken_next (first_of (take_checks M D q)) q (due_id es) (formed M (without_due es)) a).1
      (subst (Sorted 0) e (sorted_events 0 (cells_of q))).1
      (subst Proper e (proper_events 0 (cells_of q))).1
      (both_right (leb 0 D) _ (subst (λ (l : List Event). nearb D l ≡ true) e s.near))
      (both_right (not (hasb (due_id es) (without_due es))) _ (subst (λ (l : List Event). distinctb l ≡ true) e s.distinct))
      (let k = rw length-append at l in omega arith)

module _ (M D : ℕ) (q : Queue) where
  pub push_back_makes : (push_back_of M D q).refusal.number ≡ 0 → Makes M D (push_back_of M D q).queue (later (events_of q))
  unfolding push_back_of
  push_back_makes a =
      let es = events_of q in
      let h = (push_back_accepted M D q).0 a in
      let s = sound_is M D q h.0 in
      makes M D _ (later es)
      (changed_next (first_of (push_checks M D q)) q (formed M (later es)) a)
      (sorted_from 0 1 (later es) (omega arith) (later_sorted 0 es (sorted_events 0 (cells_of q))))
      (later_proper es (proper_events 0 (cells_of q)))
      (later_near D es s.near h.2)
      (later_distinct es ∙ s.distinct)
      h.1
