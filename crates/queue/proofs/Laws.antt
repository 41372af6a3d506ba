-- What each call of the queue does: the events behind an accepted call, sentence by sentence. DueTimes says of each event what comes of it. M is the largest gap
-- and D the longest distance. Assumes nothing.
use mathlib.Core.Path.{◌≡◌, refl}
use mathlib.Core.List.{[]}
use Prim.Native.Nat.{ℕ, ◌≤◌}
use Rattle.refusal.specs.Refusal.{first_of}
use Rattle.queue.specs.Row.{event, cells_of, queue_of, events_of}
use Rattle.queue.specs.Sound.{sameb, soundb}
use Rattle.queue.specs.Calls.{accepted_with, formed}
use Rattle.queue.specs.Calls.{with_event, without_event, earlier, due_id, without_due, later}
use Rattle.queue.specs.Calls.{take_checks}
use Rattle.queue.specs.Calls.{insert_of, remove_of, clock_of, take_of, push_back_of}
use Rattle.queue.specs.declared.Queue.{Queue}
use Rattle.queue.proofs.Answers.{taken_next}
use Rattle.queue.proofs.Making.{insert_makes, remove_makes, clock_makes, take_makes, push_back_makes}

-- INSERT

module _ (M D : ℕ) (q : Queue) (id delay : ℕ) where
  -- "the event stands at that distance, behind all that are due at the same time"; DueTimes says so of each event
  pub insert_events : (insert_of M D q id delay).refusal.number ≡ 0 → events_of (insert_of M D q id delay).queue ≡ with_event (event id delay) (events_of q)
  insert_events a = (insert_makes M D q id delay a).1

-- REMOVE

module _ (M D : ℕ) (q : Queue) (id : ℕ) (m : 1 ≤ M) where
  -- the event is taken out, and no other
  pub remove_events : (remove_of M D q id).refusal.number ≡ 0 → events_of (remove_of M D q id).queue ≡ without_event id (events_of q)
  remove_events a = (remove_makes M D q id m a).1

-- CLOCK

module _ (M D : ℕ) (q : Queue) (m : 1 ≤ M) where
  -- "every distance falls by 1"
  pub clock_events : (clock_of M D q).refusal.number ≡ 0 → events_of (clock_of M D q).queue ≡ earlier (events_of q)
  clock_events a = (clock_makes M D q m a).1

-- TAKE

module _ (M D : ℕ) (q : Queue) where
  -- "the first event at distance 0 is taken out"
  pub take_id : (take_of M D q).refusal.number ≡ 0 → (take_of M D q).id ≡ due_id (events_of q)
  unfolding take_of
  take_id a = (taken_next (first_of (take_checks M D q)) q (due_id (events_of q)) (formed M (without_due (events_of q))) a).0

  pub take_events : (take_of M D q).refusal.number ≡ 0 → events_of (take_of M D q).queue ≡ without_due (events_of q)
  take_events a = (take_makes M D q a).1

-- PUSH BACK

module _ (M D : ℕ) (q : Queue) where
  -- "every distance grows by 1"
  pub push_back_events : (push_back_of M D q).refusal.number ≡ 0 → events_of (push_back_of M D q).queue ≡ later (events_of q)
  push_back_events a = (push_back_makes M D q a).1

-- "An empty queue stays empty", under the clock and when pushed back

pub clock_empty : (M D : ℕ) → clock_of M D (queue_of []) ≡ accepted_with (queue_of [])
unfolding clock_of soundb sameb cells_of queue_of
clock_empty M D = refl

pub push_back_empty : (M D : ℕ) → push_back_of M D (queue_of []) ≡ accepted_with (queue_of [])
unfolding push_back_of soundb sameb cells_of queue_of
push_back_empty M D = refl
