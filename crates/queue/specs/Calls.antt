-- The queue's calls, by what they do to the events. Each has its tests in the order of document 01 (31 first, the others in numeric order): the first
-- that holds is the refusal; a refused call gives back the queue as it was, and zero elsewhere. M is the largest gap and D the longest distance.
use Rattle.std.specs.Prelude.{Bool, true, false, not, List, [], ◌∷◌, ℕ, ◌+◌, ◌-◌, leb, ltb, eqb, length, Result, Ok, Err, ⊤}
use Rattle.small.specs.Small.{pick}
use Rattle.refusal.specs.Numbers.{id_of_filler, id_there, delay_too_long, no_room, no_such_event, event_due, nothing_due, at_longest, unsound}
use Rattle.refusal.specs.Refusal.{none, refused, Check, check, first_of}
use Rattle.queue.specs.Limits.{cell_count, filler}
use Rattle.queue.specs.Row.{Event, event, queue_of, events_of, normal}
use Rattle.queue.specs.Sound.{soundb, hasb}
use Rattle.refusal.specs.Reason.{refusal_by, refusal_in}
use Rattle.refusal.specs.declared.Reason.{Reason}
use Rattle.refusal.specs.declared.Refusal.{Refusal}
use Rattle.queue.specs.declared.Distance.{Distance}
use Rattle.queue.specs.declared.Queue.{Queue}

-- What a call answers: its refusal, or none, and what it gives beside it. A refused call gives the queue back as it was, and zero for the id or the distance.

-- insert, remove, clock and push back
pub record Changed : Type 0 where
  pub refusal : Refusal
  pub queue : Queue

pub record Taken : Type 0 where
  pub refusal : Refusal
  pub id : ℕ
  pub queue : Queue

pub record Left : Type 0 where
  pub refusal : Refusal
  pub distance : Distance

-- WHAT AN OUTCOME OF THE CODE IS AS AN ANSWER, with the queue that it leaves

abbrev pub changed_by : Result ⊤ Reason → Queue → Changed
changed_by r q = record { refusal = refusal_in r; queue = q }

abbrev pub taken_by : Result ℕ Reason → Queue → Taken
taken_by (Ok id) q = record { refusal = none; id = id; queue = q }
taken_by (Err r) q = record { refusal = refusal_by r; id = 0; queue = q }

abbrev pub left_by : Result Distance Reason → Left
left_by (Ok d) = record { refusal = none; distance = d }
left_by (Err r) = record { refusal = refusal_by r; distance = record { 0 = 0 } }

-- The answers by their parts

abbrev pub accepted_with : Queue → Changed
accepted_with q = record { refusal = none; queue = q }

abbrev pub refused_with : ℕ → Queue → Changed
refused_with n q = record { refusal = refused n 0; queue = q }

-- the next queue where nothing is refused, else the queue as it was
abbrev pub changed : Refusal → Queue → Queue → Changed
changed r q next = pick (eqb r.number 0) (accepted_with next) (record { refusal = r; queue = q })

abbrev pub taken_with : Refusal → ℕ → Queue → Taken
taken_with r id q = record { refusal = r; id = id; queue = q }

abbrev pub taken : Refusal → Queue → ℕ → Queue → Taken
taken r q id next = pick (eqb r.number 0) (taken_with none id next) (taken_with r 0 q)

abbrev pub left_with : Refusal → ℕ → Left
left_with r d = record { refusal = r; distance = record { 0 = d } }

abbrev pub left_after : Refusal → ℕ → Left
left_after r d = pick (eqb r.number 0) (left_with none d) (left_with r 0)

-- the queue whose events these are
abbrev pub formed : ℕ → List Event → Queue
formed M es = queue_of (normal M 0 es)

-- their normal form would need more cells than there are
abbrev pub overfull : ℕ → List Event → Bool
overfull M es = ltb cell_count (length (normal M 0 es))

-- INSERT: "the event stands at that distance, behind all that are due at the same time. All others keep their distance."

abbrev pub with_event : Event → List Event → List Event
with_event x [] = x ∷ []
with_event x (e ∷ es) = pick (leb e.at x.at) (e ∷ with_event x es) (x ∷ e ∷ es)

abbrev pub insert_checks : ℕ → ℕ → Queue → ℕ → ℕ → List Check
insert_checks M D q id delay =
    check unsound (not (soundb M D q))
    ∷ check id_of_filler (eqb id filler)
    ∷ check id_there (hasb id (events_of q))
    ∷ check delay_too_long (ltb D delay)
    ∷ check no_room (overfull M (with_event (event id delay) (events_of q)))
    ∷ []

unfoldable pub insert_of : ℕ → ℕ → Queue → ℕ → ℕ → Changed
insert_of M D q id delay = changed (first_of (insert_checks M D q id delay)) q (formed M (with_event (event id delay) (events_of q)))

-- REMOVE

abbrev pub without_event : ℕ → List Event → List Event
without_event id [] = []
without_event id (e ∷ es) = pick (eqb e.id id) es (e ∷ without_event id es)

abbrev pub find_checks : ℕ → ℕ → Queue → ℕ → List Check
find_checks M D q id = check unsound (not (soundb M D q)) ∷ check no_such_event (not (hasb id (events_of q))) ∷ []

unfoldable pub remove_of : ℕ → ℕ → Queue → ℕ → Changed
remove_of M D q id = changed (first_of (find_checks M D q id)) q (formed M (without_event id (events_of q)))

-- TIME LEFT

abbrev pub distance_of : ℕ → List Event → ℕ
distance_of id [] = 0
distance_of id (e ∷ es) = pick (eqb e.id id) e.at (distance_of id es)

unfoldable pub time_left_of : ℕ → ℕ → Queue → ℕ → Left
time_left_of M D q id = left_after (first_of (find_checks M D q id)) (distance_of id (events_of q))

-- CLOCK: "every distance falls by 1". An empty queue stays empty.

-- an event is at distance 0
abbrev pub dueb : List Event → Bool
dueb [] = false
dueb (e ∷ es) = pick (eqb e.at 0) true (dueb es)

abbrev pub earlier : List Event → List Event
earlier [] = []
earlier (e ∷ es) = event e.id (e.at - 1) ∷ earlier es

abbrev pub clock_checks : ℕ → ℕ → Queue → List Check
clock_checks M D q = check unsound (not (soundb M D q)) ∷ check event_due (dueb (events_of q)) ∷ []

unfoldable pub clock_of : ℕ → ℕ → Queue → Changed
clock_of M D q = changed (first_of (clock_checks M D q)) q (formed M (earlier (events_of q)))

-- TAKE: "the first event at distance 0 is taken out"

abbrev pub due_id : List Event → ℕ
due_id [] = 0
due_id (e ∷ es) = pick (eqb e.at 0) e.id (due_id es)

abbrev pub without_due : List Event → List Event
without_due [] = []
without_due (e ∷ es) = pick (eqb e.at 0) es (e ∷ without_due es)

abbrev pub take_checks : ℕ → ℕ → Queue → List Check
take_checks M D q = check unsound (not (soundb M D q)) ∷ check nothing_due (not (dueb (events_of q))) ∷ []

unfoldable pub take_of : ℕ → ℕ → Queue → Taken
take_of M D q = taken (first_of (take_checks M D q)) q (due_id (events_of q)) (formed M (without_due (events_of q)))

-- PUSH BACK: "every distance grows by 1; an empty queue stays empty"

abbrev pub later : List Event → List Event
later [] = []
later (e ∷ es) = event e.id (e.at + 1) ∷ later es

-- an event is at the longest distance
abbrev pub farb : ℕ → List Event → Bool
farb D [] = false
farb D (e ∷ es) = pick (eqb e.at D) true (farb D es)

abbrev pub push_checks : ℕ → ℕ → Queue → List Check
push_checks M D q =
    check unsound (not (soundb M D q))
    ∷ check no_room (overfull M (later (events_of q)))
    ∷ check at_longest (farb D (events_of q))
    ∷ []

unfoldable pub push_back_of : ℕ → ℕ → Queue → Changed
push_back_of M D q = changed (first_of (push_checks M D q)) q (formed M (later (events_of q)))
