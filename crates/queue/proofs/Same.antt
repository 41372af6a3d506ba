-- On a sound queue the total steps are the calls, over any largest gap M (1 or more) and any longest distance D: a scheduler that has checked its state
-- once goes by these laws. Assumes nothing.
use mathlib.Core.Path.{◌≡◌, refl, sym, ap, ◌∙◌}
use mathlib.Core.Bool.{Bool, true, false}
use mathlib.Core.List.{List, [], ◌∷◌}
use Prim.Native.Nat.{ℕ, ◌-◌, ◌≤◌, ◌<◌}
use native.Mathlib.Omega.{arith}
use lib.Dec.{ltb, eqb}
use lib.ListN.{get_or}
use borrow.Author.Tests.{le-ltb, ne_eqb, eqb-true, ltb-true}
use Rattle.small.specs.Small.{both}
use Rattle.small.proofs.Tests.{both_false}
use Rattle.refusal.specs.Numbers.{event_due, nothing_due}
use Rattle.refusal.specs.Refusal.{none, refused}
use Rattle.queue.specs.Limits.{filler}
use Rattle.queue.specs.Row.{cell, cells_of, queue_of, events_of}
use Rattle.queue.specs.Sound.{soundb, hasb}
use Rattle.queue.specs.Calls.{accepted_with, refused_with, taken_with, dueb, clock_of, take_of, insert_of}
use Rattle.queue.specs.Steps.{first_cell, due_step, empty_step, less_head, nearer_step, rest_step, tick_step, falls_step, place_step}
use Rattle.queue.specs.declared.Cell.{Cell}
use Rattle.queue.specs.declared.Queue.{Queue}
use Rattle.queue.proofs.SoundLaws.{sound_is, sound_again}
use Rattle.queue.proofs.Placing.{place_step_lem}
use Rattle.queue.proofs.Ticking.{sound_due, sound_tick, sound_rest, sound_first_lem}

module _ (M D : ℕ) (q : Queue) (m : 1 ≤ M) (s : soundb M D q ≡ true) where
  due_is : due_step q ≡ dueb (events_of q)
  due_is = sound_due M D q m (sound_is M D q s)

  -- the clock, where nothing is due, is the tick
  pub clock_step : due_step q ≡ false → clock_of M D q ≡ accepted_with (tick_step q)
  unfolding clock_of
  clock_step d =
      let e : dueb (events_of q) ≡ false = sym due_is ∙ d in
      rw (s, e, sound_tick M D q m (sound_is M D q s) e)

  pub clock_due : due_step q ≡ true → clock_of M D q ≡ refused_with event_due q
  unfolding clock_of
  clock_due d = let e : dueb (events_of q) ≡ true = sym due_is ∙ d in rw (s, e)

  -- the take, where something is due, gives the first cell's id and the other cells
  pub take_step : due_step q ≡ true → take_of M D q ≡ taken_with none (first_cell q).id (rest_step q)
  unfolding take_of
  take_step d =
      let e : dueb (events_of q) ≡ true = sym due_is ∙ d in
      let k = sound_is M D q s in
      rw (s, e, sound_first_lem M D q m k e, sound_rest M D q m k e)

  pub take_none : due_step q ≡ false → take_of M D q ≡ taken_with (refused nothing_due 0) 0 q
  unfolding take_of
  take_none d = let e : dueb (events_of q) ≡ false = sym due_is ∙ d in rw (s, e)

  -- an insertion that is not refused for its id or its delay is the event put in
  pub insert_step : (id delay : ℕ) → eqb id filler ≡ false → hasb id (events_of q) ≡ false → delay ≤ D → insert_of M D q id delay ≡ place_step M q id delay
  unfolding insert_of
  insert_step id delay f h d = rw (s, f, h, le-ltb D delay d) (sym (place_step_lem M D q (sound_is M D q s) id delay m))

-- What a tick does to a queue whose first gap stays above 0, or that is empty

-- an empty queue stays as it is, with nothing due
pub still_tick : (q : Queue) → empty_step q ≡ true → (tick_step q ≡ q) × (due_step (tick_step q) ≡ false)
unfolding empty_step tick_step due_step
still_tick q e =
    let l : q.len ≡ 0 = eqb-true q.len 0 e in
    let t : tick_step q ≡ q = rw e in
    (t, rw (t, le-ltb 0 q.len (omega arith)))

-- the first gap after it has fallen
less_gap : (xs : List Cell) → (get_or (less_head xs) 0 (cell 0 0)).gap ≡ (get_or xs 0 (cell 0 0)).gap - 1
less_gap [] = refl
less_gap (c ∷ cs) = refl

-- a first gap that stays above 0 falls, and nothing is due
pub falls_tick : (M D : ℕ) (q : Queue) → soundb M D q ≡ true → falls_step q ≡ true → (tick_step q ≡ nearer_step q) × (due_step (tick_step q) ≡ false)
unfolding falls_step tick_step due_step nearer_step cells_of queue_of
falls_tick M D q s f = go (eqb q.len 0) refl
  where
    h : 1 < (first_cell q).gap
    h = ltb-true 1 (first_cell q).gap f

    go : (b : Bool) → eqb q.len 0 ≡ b → (tick_step q ≡ nearer_step q) × (due_step (tick_step q) ≡ false)
    go true e =
        let c : cells_of q ≡ [] = rw (eqb-true q.len 0 e) in
        let z : q ≡ queue_of [] = sound_again M D q (sound_is M D q s) ∙ ap queue_of c in
        let g : (first_cell q).gap ≡ 0 = ap (λ (p : Queue). (first_cell p).gap) z in
        absurd (omega (arith, h, g))
    go false e =
        let n : eqb (first_cell q).gap 1 ≡ false = ne_eqb (first_cell q).gap 1 (λ z. omega (arith, h)) in
        let x : both (eqb (first_cell q).id filler) (eqb (first_cell q).gap 1) ≡ false = rw n (both_false (eqb (first_cell q).id filler)) in
        let t : tick_step q ≡ nearer_step q = rw (e, x) in
        let k : eqb (get_or (less_head q.cells) 0 (cell 0 0)).gap 0 ≡ false =
        ne_eqb (get_or (less_head q.cells) 0 (cell 0 0)).gap 0 (λ z. omega (arith, h, less_gap q.cells)) in
        (t, rw t (rw k (both_false (ltb 0 q.len))))
