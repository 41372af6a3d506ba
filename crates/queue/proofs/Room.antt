-- How much room events need: a cell for each, and one for each whole largest gap up to the longest distance. So an event that is taken can be put in again
-- while there is that much room. M is the largest gap and D the longest distance. Assumes nothing.
use mathlib.Core.Path.{◌≡◌, subst, ap}
use mathlib.Core.Bool.{true}
use mathlib.Core.List.{List, [], ◌∷◌}
use Prim.Native.Nat.{ℕ, suc, ◌+◌, ◌-◌, ◌*◌, ◌/◌, ◌≤◌}
use native.Mathlib.Omega.{arith}
use native.Mathlib.Nat.{div-mul-le_self, le-div_iff_mul-le, add-mul}
use lib.Dec.{leb}
use lib.ListN.{length, length-append}
use borrow.Author.Tests.{le-leb, leb-true, eqb-false}
use Rattle.small.proofs.Tests.{both_left, both_right}
use Rattle.queue.specs.Limits.{max_gap, cell_count, longest, filler}
use Rattle.queue.specs.Row.{Event, event, cells_of, events_of, normal}
use Rattle.queue.specs.Sound.{nearb, soundb}
use Rattle.queue.specs.Calls.{with_event, dueb, insert_of, take_of}
use Rattle.queue.specs.declared.Queue.{Queue}
use Rattle.queue.specs.Meaning.{Sorted}
use Rattle.queue.proofs.Normal.{Proper, sorted_events, proper_events, cells_count}
use Rattle.queue.proofs.SoundLaws.{sound_is}
use Rattle.queue.proofs.Events.{with_length, with_sorted, with_near}
use Rattle.queue.proofs.Refusals.{insert_accepted, take_accepted}
use Rattle.queue.proofs.Keeps.{take_sound}
use Rattle.queue.proofs.DueTimes.{take_first, take_gone}

-- the fillers of a gap, and the whole gaps in the way beyond it, are no more than those in the whole way
fillers_beyond : (M a b : ℕ) → 1 ≤ M → (a - 1) / M + b / M ≤ (a + b) / M
fillers_beyond M a b m =
    let x = (a - 1) / M in
    let y = b / M in
    let p : x * M ≤ a - 1 = div-mul-le_self (a - 1) M in
    let q : y * M ≤ b = div-mul-le_self b M in
    (le-div_iff_mul-le {k = M} {x = x + y} {y = a + b} m).1 (omega (arith, add-mul x y M))

-- events at most D away, counted from t, need a cell each and one for each whole gap on the way from t to D
pub room : (M D t : ℕ) (es : List Event) → 1 ≤ M → Sorted t es → nearb D es ≡ true → length (normal M t es) ≤ length es + (D - t) / M
room M D t [] m s n = omega arith
room M D t (e ∷ es) m s n =
    let a : e.at ≤ D = leb-true e.at D (both_left _ _ n) in
    let r : length (normal M e.at es) ≤ length es + (D - e.at) / M = room M D e.at es m s.1 (both_right (leb e.at D) _ n) in
    let w : e.at - t + (D - e.at) ≡ D - t = omega (arith, s.0) in
    let f : (e.at - t - 1) / M + (D - e.at) / M ≤ (D - t) / M = rw w at (fillers_beyond M (e.at - t) (D - e.at) m) in
    rw (length-append, cells_count M (e.at - t) e.id) (omega arith)

-- THE EVENT THAT IS TAKEN CAN BE PUT IN AGAIN, at any distance
pub room_again : (M D : ℕ) (q : Queue) (d : ℕ) → 1 ≤ M → soundb M D q ≡ true → dueb (events_of q) ≡ true → d ≤ D → length (events_of q) + D / M ≤ cell_count
    → let r = take_of M D q in (insert_of M D r.queue r.id d).refusal.number ≡ 0
room_again M D q d m s due near h =
    let r = take_of M D q in
    let a : r.refusal.number ≡ 0 = (take_accepted M D q).1 (s, due) in
    let left = events_of r.queue in
    let x = event r.id d in
    let first : events_of q ≡ event r.id 0 ∷ left = take_first M D q a in
    let sound : soundb M D r.queue ≡ true = take_sound M D q s in
    let order = with_sorted 0 x left (omega arith) (sorted_events 0 (cells_of r.queue)) in
    let close = with_near D x left (le-leb d D near) (sound_is M D r.queue sound).near in
    let z : D - 0 ≡ D = omega arith in
    let k : length (normal M 0 (with_event x left)) ≤ length (with_event x left) + D / M = rw z at (room M D 0 (with_event x left) m order close) in
    let n : length (events_of q) ≡ suc (length left) = ap length first in
    (insert_accepted M D r.queue r.id d).1 (
      sound,
      eqb-false r.id filler (subst Proper first (proper_events 0 (cells_of q))).0,
      take_gone M D q a,
      near,
      omega (arith, with_length x left),
    )

-- so there is room for 8 events
pub room_for_eight : (q : Queue) (d : ℕ) → soundb max_gap longest q ≡ true → dueb (events_of q) ≡ true → d ≤ longest → length (events_of q) ≤ 8
    → let r = take_of max_gap longest q in (insert_of max_gap longest r.queue r.id d).refusal.number ≡ 0
room_for_eight q d s due near h = room_again max_gap longest q d (omega arith) s due near (omega arith)
