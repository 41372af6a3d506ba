-- "Given exactly when": each refusal number of each call of the queue, and number 0 where a call is not refused. M is the largest gap and D the longest
-- distance. Assumes nothing.
use mathlib.Core.Path.{◌≡◌, refl, ap}
use mathlib.Core.Bool.{true, false, not}
use mathlib.Core.List.{List, [], ◌∷◌}
use mathlib.Core.Logic.{◌↔◌, ◌≢◌}
use Prim.Native.Nat.{ℕ, ◌≤◌, ◌<◌}
use lib.Dec.{ltb}
use lib.ListN.{length}
use borrow.Author.Tests.{eq-eqb, ne_eqb, eqb-true, eqb-false, lt-ltb, le-ltb, ltb-true, ltb-false, not-true, not-false}
use Rattle.refusal.specs.Numbers.{id_of_filler, id_there, delay_too_long, no_room, no_such_event, event_due, nothing_due, at_longest, unsound}
use Rattle.refusal.specs.Refusal.{Check, check, first_of}
use Rattle.refusal.proofs.Exactly.{number_when, none_when, no_place}
use Rattle.queue.specs.Meaning.{cells_needed}
use Rattle.queue.specs.Limits.{cell_count, filler}
use Rattle.queue.specs.Row.{event, cells_of, events_of}
use Rattle.queue.specs.Sound.{soundb, hasb}
use Rattle.queue.specs.Calls.{with_event, later, dueb, farb}
use Rattle.queue.specs.Calls.{insert_checks, find_checks, clock_checks, take_checks, push_checks}
use Rattle.queue.specs.Calls.{insert_of, remove_of, time_left_of, clock_of, take_of, push_back_of}
use Rattle.queue.specs.Steps.{place_cells, place_step}
use Rattle.queue.specs.declared.Queue.{Queue}
use Rattle.queue.proofs.Normal.{proper_events}
use Rattle.queue.proofs.Events.{no_filler}
use Rattle.queue.proofs.Answers.{changed_decided, taken_decided, left_decided}

-- no event has the id of a filler
filler_absent : (q : Queue) → hasb filler (events_of q) ≡ false
filler_absent q = no_filler (events_of q) (proper_events 0 (cells_of q))

-- INSERT

module _ (M D : ℕ) (q : Queue) (id delay : ℕ) where
  insert_number : (insert_of M D q id delay).refusal.number ≡ (first_of (insert_checks M D q id delay)).number
  unfolding insert_of
  insert_number = (changed_decided (first_of (insert_checks M D q id delay)) q _).number

  -- "queue, state or table handed in isn't sound"
  pub insert_31 : (insert_of M D q id delay).refusal.number ≡ unsound ↔ (soundb M D q ≡ false)
  insert_31 =
      number_when _ (insert_checks M D q id delay) insert_number 0 refl refl
      (λ h. not-true _ h.1)
      (λ h. (tt, ap not h))

  -- "insert: id 255"
  pub insert_22 : (insert_of M D q id delay).refusal.number ≡ id_of_filler ↔ (soundb M D q ≡ true) × (id ≡ filler)
  insert_22 =
      number_when _ (insert_checks M D q id delay) insert_number 1 refl refl
      (λ h. (not-false _ h.0.0, eqb-true id filler h.1))
      (λ h. ((ap not h.0, tt), eq-eqb id filler h.1))

  -- "insert: id already there"
  pub insert_23 : (insert_of M D q id delay).refusal.number ≡ id_there ↔ (soundb M D q ≡ true) × (id ≢ filler) × (hasb id (events_of q) ≡ true)
  insert_23 =
      number_when _ (insert_checks M D q id delay) insert_number 2 refl refl
      (λ h. (not-false _ h.0.0, eqb-false id filler h.0.1.0, h.1))
      (λ h. ((ap not h.0, (ne_eqb id filler h.1, tt)), h.2))

  -- "insert: delay above 1,000,000"
  pub insert_24 : (insert_of M D q id delay).refusal.number ≡ delay_too_long
      ↔ (soundb M D q ≡ true) × (id ≢ filler) × (hasb id (events_of q) ≡ false) × (D < delay)
  insert_24 =
      number_when _ (insert_checks M D q id delay) insert_number 3 refl refl
      (λ h. (not-false _ h.0.0, eqb-false id filler h.0.1.0, h.0.1.1.0, ltb-true D delay h.1))
      (λ h. ((ap not h.0, (ne_eqb id filler h.1, (h.2, tt))), lt-ltb D delay h.3))

  -- "insert, push back: normal form would need more than 32 cells"
  pub insert_25 : (insert_of M D q id delay).refusal.number ≡ no_room
      ↔ (soundb M D q ≡ true) × (id ≢ filler) × (hasb id (events_of q) ≡ false) × (delay ≤ D)
      × (cell_count < cells_needed M (with_event (event id delay) (events_of q)))
  insert_25 =
      number_when _ (insert_checks M D q id delay) insert_number 4 refl refl
      (λ h. (not-false _ h.0.0, eqb-false id filler h.0.1.0, h.0.1.1.0, ltb-false D delay h.0.1.1.1.0, ltb-true cell_count _ h.1))
      (λ h. ((ap not h.0, (ne_eqb id filler h.1, (h.2, (le-ltb D delay h.3, tt)))), lt-ltb cell_count _ h.4))

  -- and no refusal exactly when no test holds
  pub insert_accepted : (insert_of M D q id delay).refusal.number ≡ 0
      ↔ (soundb M D q ≡ true) × (id ≢ filler) × (hasb id (events_of q) ≡ false) × (delay ≤ D)
      × (cells_needed M (with_event (event id delay) (events_of q)) ≤ cell_count)
  insert_accepted =
      none_when _ (insert_checks M D q id delay) insert_number refl
      (λ h. (not-false _ h.0, eqb-false id filler h.1.0, h.1.1.0, ltb-false D delay h.1.1.1.0, ltb-false cell_count _ h.1.1.1.1.0))
      (λ h. (ap not h.0, (ne_eqb id filler h.1, (h.2, (le-ltb D delay h.3, (le-ltb cell_count _ h.4, tt))))))

  -- "the place (0 where none is named below)"
  pub insert_place : (insert_of M D q id delay).refusal.place ≡ 0
  unfolding insert_of
  insert_place = (changed_decided (first_of (insert_checks M D q id delay)) q _).place (no_place (insert_checks M D q id delay) refl)

-- REMOVE

module _ (M D : ℕ) (q : Queue) (id : ℕ) where
  remove_number : (remove_of M D q id).refusal.number ≡ (first_of (find_checks M D q id)).number
  unfolding remove_of
  remove_number = (changed_decided (first_of (find_checks M D q id)) q _).number

  -- "queue, state or table handed in isn't sound"
  pub remove_31 : (remove_of M D q id).refusal.number ≡ unsound ↔ (soundb M D q ≡ false)
  remove_31 =
      number_when _ (find_checks M D q id) remove_number 0 refl refl
      (λ h. not-true _ h.1)
      (λ h. (tt, ap not h))

  -- "remove, time left: no such event (255 included)"
  pub remove_26 : (remove_of M D q id).refusal.number ≡ no_such_event ↔ (soundb M D q ≡ true) × (hasb id (events_of q) ≡ false)
  remove_26 =
      number_when _ (find_checks M D q id) remove_number 1 refl refl
      (λ h. (not-false _ h.0.0, not-true _ h.1))
      (λ h. ((ap not h.0, tt), ap not h.1))

  -- and no refusal exactly when no test holds
  pub remove_accepted : (remove_of M D q id).refusal.number ≡ 0 ↔ (soundb M D q ≡ true) × (hasb id (events_of q) ≡ true)
  remove_accepted =
      none_when _ (find_checks M D q id) remove_number refl
      (λ h. (not-false _ h.0, not-false _ h.1.0))
      (λ h. (ap not h.0, (ap not h.1, tt)))

  -- "the place (0 where none is named below)"
  pub remove_place : (remove_of M D q id).refusal.place ≡ 0
  unfolding remove_of
  remove_place = (changed_decided (first_of (find_checks M D q id)) q _).place (no_place (find_checks M D q id) refl)

-- "(255 included)": a filler's id is never there
pub remove_255 : (M D : ℕ) (q : Queue) → soundb M D q ≡ true → (remove_of M D q filler).refusal.number ≡ no_such_event
remove_255 M D q s = (remove_26 M D q filler).1 (s, filler_absent q)

-- TIME LEFT

module _ (M D : ℕ) (q : Queue) (id : ℕ) where
  time_left_number : (time_left_of M D q id).refusal.number ≡ (first_of (find_checks M D q id)).number
  unfolding time_left_of
  time_left_number = (left_decided (first_of (find_checks M D q id)) _).number

  -- "queue, state or table handed in isn't sound"
  pub time_left_31 : (time_left_of M D q id).refusal.number ≡ unsound ↔ (soundb M D q ≡ false)
  time_left_31 =
      number_when _ (find_checks M D q id) time_left_number 0 refl refl
      (λ h. not-true _ h.1)
      (λ h. (tt, ap not h))

  -- "remove, time left: no such event (255 included)"
  pub time_left_26 : (time_left_of M D q id).refusal.number ≡ no_such_event ↔ (soundb M D q ≡ true) × (hasb id (events_of q) ≡ false)
  time_left_26 =
      number_when _ (find_checks M D q id) time_left_number 1 refl refl
      (λ h. (not-false _ h.0.0, not-true _ h.1))
      (λ h. ((ap not h.0, tt), ap not h.1))

  -- and no refusal exactly when no test holds
  pub time_left_accepted : (time_left_of M D q id).refusal.number ≡ 0 ↔ (soundb M D q ≡ true) × (hasb id (events_of q) ≡ true)
  time_left_accepted =
      none_when _ (find_checks M D q id) time_left_number refl
      (λ h. (not-false _ h.0, not-false _ h.1.0))
      (λ h. (ap not h.0, (ap not h.1, tt)))

  -- "the place (0 where none is named below)"
  pub time_left_place : (time_left_of M D q id).refusal.place ≡ 0
  unfolding time_left_of
  time_left_place = (left_decided (first_of (find_checks M D q id)) _).place (no_place (find_checks M D q id) refl)

-- "(255 included)": a filler's id is never there
pub time_left_255 : (M D : ℕ) (q : Queue) → soundb M D q ≡ true → (time_left_of M D q filler).refusal.number ≡ no_such_event
time_left_255 M D q s = (time_left_26 M D q filler).1 (s, filler_absent q)

-- CLOCK

module _ (M D : ℕ) (q : Queue) where
  clock_number : (clock_of M D q).refusal.number ≡ (first_of (clock_checks M D q)).number
  unfolding clock_of
  clock_number = (changed_decided (first_of (clock_checks M D q)) q _).number

  -- "queue, state or table handed in isn't sound"
  pub clock_31 : (clock_of M D q).refusal.number ≡ unsound ↔ (soundb M D q ≡ false)
  clock_31 =
      number_when _ (clock_checks M D q) clock_number 0 refl refl
      (λ h. not-true _ h.1)
      (λ h. (tt, ap not h))

  -- "clock: an event is at distance 0"
  pub clock_27 : (clock_of M D q).refusal.number ≡ event_due ↔ (soundb M D q ≡ true) × (dueb (events_of q) ≡ true)
  clock_27 =
      number_when _ (clock_checks M D q) clock_number 1 refl refl
      (λ h. (not-false _ h.0.0, h.1))
      (λ h. ((ap not h.0, tt), h.1))

  -- and no refusal exactly when no test holds
  pub clock_accepted : (clock_of M D q).refusal.number ≡ 0 ↔ (soundb M D q ≡ true) × (dueb (events_of q) ≡ false)
  clock_accepted =
      none_when _ (clock_checks M D q) clock_number refl
      (λ h. (not-false _ h.0, h.1.0))
      (λ h. (ap not h.0, (h.1, tt)))

  -- "the place (0 where none is named below)"
  pub clock_place : (clock_of M D q).refusal.place ≡ 0
  unfolding clock_of
  clock_place = (changed_decided (first_of (clock_checks M D q)) q _).place (no_place (clock_checks M D q) refl)

-- TAKE

module _ (M D : ℕ) (q : Queue) where
  take_number : (take_of M D q).refusal.number ≡ (first_of (take_checks M D q)).number
  unfolding take_of
  take_number = (taken_decided (first_of (take_checks M D q)) q _ _).number

  -- "queue, state or table handed in isn't sound"
  pub take_31 : (take_of M D q).refusal.number ≡ unsound ↔ (soundb M D q ≡ false)
  take_31 =
      number_when _ (take_checks M D q) take_number 0 refl refl
      (λ h. not-true _ h.1)
      (λ h. (tt, ap not h))

  -- "take: nothing at distance 0"
  pub take_28 : (take_of M D q).refusal.number ≡ nothing_due ↔ (soundb M D q ≡ true) × (dueb (events_of q) ≡ false)
  take_28 =
      number_when _ (take_checks M D q) take_number 1 refl refl
      (λ h. (not-false _ h.0.0, not-true _ h.1))
      (λ h. ((ap not h.0, tt), ap not h.1))

  -- and no refusal exactly when no test holds
  pub take_accepted : (take_of M D q).refusal.number ≡ 0 ↔ (soundb M D q ≡ true) × (dueb (events_of q) ≡ true)
  take_accepted =
      none_when _ (take_checks M D q) take_number refl
      (λ h. (not-false _ h.0, not-false _ h.1.0))
      (λ h. (ap not h.0, (ap not h.1, tt)))

  -- "the place (0 where none is named below)"
  pub take_place : (take_of M D q).refusal.place ≡ 0
  unfolding take_of
  take_place = (taken_decided (first_of (take_checks M D q)) q _ _).place (no_place (take_checks M D q) refl)

-- PUSH BACK

module _ (M D : ℕ) (q : Queue) where
  push_back_number : (push_back_of M D q).refusal.number ≡ (first_of (push_checks M D q)).number
  unfolding push_back_of
  push_back_number = (changed_decided (first_of (push_checks M D q)) q _).number

  -- "queue, state or table handed in isn't sound"
  pub push_back_31 : (push_back_of M D q).refusal.number ≡ unsound ↔ (soundb M D q ≡ false)
  push_back_31 =
      number_when _ (push_checks M D q) push_back_number 0 refl refl
      (λ h. not-true _ h.1)
      (λ h. (tt, ap not h))

  -- "insert, push back: normal form would need more than 32 cells"
  pub push_back_25 : (push_back_of M D q).refusal.number ≡ no_room ↔ (soundb M D q ≡ true) × (cell_count < cells_needed M (later (events_of q)))
  push_back_25 =
      number_when _ (push_checks M D q) push_back_number 1 refl refl
      (λ h. (not-false _ h.0.0, ltb-true cell_count _ h.1))
      (λ h. ((ap not h.0, tt), lt-ltb cell_count _ h.1))

  -- "push back: an event is at 1,000,000"
  pub push_back_29 : (push_back_of M D q).refusal.number ≡ at_longest
      ↔ (soundb M D q ≡ true) × (cells_needed M (later (events_of q)) ≤ cell_count) × (farb D (events_of q) ≡ true)
  push_back_29 =
      number_when _ (push_checks M D q) push_back_number 2 refl refl
      (λ h. (not-false _ h.0.0, ltb-false cell_count _ h.0.1.0, h.1))
      (λ h. ((ap not h.0, (le-ltb cell_count _ h.1, tt)), h.2))

  -- and no refusal exactly when no test holds
  pub push_back_accepted : (push_back_of M D q).refusal.number ≡ 0
      ↔ (soundb M D q ≡ true) × (cells_needed M (later (events_of q)) ≤ cell_count) × (farb D (events_of q) ≡ false)
  push_back_accepted =
      none_when _ (push_checks M D q) push_back_number refl
      (λ h. (not-false _ h.0, ltb-false cell_count _ h.1.0, h.1.1.0))
      (λ h. (ap not h.0, (le-ltb cell_count _ h.1, (h.2, tt))))

  -- "the place (0 where none is named below)"
  pub push_back_place : (push_back_of M D q).refusal.place ≡ 0
  unfolding push_back_of
  push_back_place = (changed_decided (first_of (push_checks M D q)) q _).place (no_place (push_checks M D q) refl)

-- PLACED, the total step that looks only at the length and the room

module _ (M : ℕ) (q : Queue) (id delay : ℕ) where
  abbrev pub place_checks : List Check
  place_checks = check unsound (ltb cell_count q.len) ∷ check no_room (ltb cell_count (length (place_cells M id delay (cells_of q)))) ∷ []

  place_number : (place_step M q id delay).refusal.number ≡ (first_of place_checks).number
  unfolding place_step
  place_number = (changed_decided (first_of place_checks) q _).number

  pub place_31 : (place_step M q id delay).refusal.number ≡ unsound ↔ (cell_count < q.len)
  place_31 =
      number_when _ place_checks place_number 0 refl refl
      (λ h. ltb-true cell_count q.len h.1)
      (λ h. (tt, lt-ltb cell_count q.len h))

  pub place_25 : (place_step M q id delay).refusal.number ≡ no_room ↔ (q.len ≤ cell_count) × (cell_count < length (place_cells M id delay (cells_of q)))
  place_25 =
      number_when _ place_checks place_number 1 refl refl
      (λ h. (ltb-false cell_count q.len h.0.0, ltb-true cell_count _ h.1))
      (λ h. ((le-ltb cell_count q.len h.0, tt), lt-ltb cell_count _ h.1))

  pub place_accepted : (place_step M q id delay).refusal.number ≡ 0 ↔ (q.len ≤ cell_count) × (length (place_cells M id delay (cells_of q)) ≤ cell_count)
  place_accepted =
      none_when _ place_checks place_number refl
      (λ h. (ltb-false cell_count q.len h.0, ltb-false cell_count _ h.1.0))
      (λ h. (le-ltb cell_count q.len h.0, (le-ltb cell_count _ h.1, tt)))

  pub place_place : (place_step M q id delay).refusal.place ≡ 0
  unfolding place_step
  place_place = (changed_decided (first_of place_checks) q _).place (no_place place_checks refl)
