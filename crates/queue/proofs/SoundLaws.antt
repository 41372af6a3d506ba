-- What a sound queue is, and when a queue made of events is one. Over any largest gap M and any longest distance D. Assumes nothing.
use mathlib.Core.Path.{◌≡◌, refl, ap, ◌∙◌}
use mathlib.Core.Bool.{true}
use mathlib.Core.List.{List, []}
use Prim.Native.Nat.{ℕ, ◌≤◌}
use native.Mathlib.Omega.{arith}
use lib.Dec.{leb, eqb}
use lib.ListN.{length, length-append, length-replicate}
use borrow.Author.Tests.{eq-eqb, le-leb, leb-true, eqb-true}
use Rattle.small.specs.Small.{padded}
use Rattle.small.proofs.Tests.{both_left, both_right}
use Rattle.queue.specs.Limits.{cell_count}
use Rattle.queue.specs.Row.{Event, cell, cells_of, queue_of, events_of, events_from, normal}
use Rattle.queue.specs.Sound.{sameb, distinctb, nearb, soundb}
use Rattle.queue.specs.declared.Queue.{Queue}
use Rattle.queue.proofs.Cells.{cells_of_queue_of, made_cells, made_len, made_row, made_again}
use Rattle.queue.specs.Meaning.{Sorted}
use Rattle.queue.proofs.Normal.{Proper, round_trip}
use Rattle.queue.proofs.Form.{same_cells_lem, same_self}

pub same_queue : (q p : Queue) → sameb q p ≡ true → q ≡ p
unfolding sameb
same_queue q p e =
    let n : q.len ≡ p.len = eqb-true q.len p.len (both_left _ _ e) in
    let s : q.cells ≡ p.cells = same_cells_lem q.cells p.cells (both_right (eqb q.len p.len) _ e) in
    λ j. record { cells = s j; len = n j }

pub queue_self : (q : Queue) → sameb q q ≡ true
unfolding sameb
queue_self q = rw (eq-eqb q.len q.len refl) (same_self q.cells)

pub record Sound (M D : ℕ) (q : Queue) : Type 0 where
  pub short : q.len ≤ cell_count
  pub form : q ≡ queue_of (normal M 0 (events_of q))
  pub distinct : distinctb (events_of q) ≡ true
  pub near : nearb D (events_of q) ≡ true

pub sound_is : (M D : ℕ) (q : Queue) → soundb M D q ≡ true → Sound M D q
unfolding soundb
sound_is M D q e =
    let a = both_right (leb q.len cell_count) _ e in
    let b = both_right (sameb q (queue_of (normal M 0 (events_of q)))) _ a in
    record {
      short = leb-true q.len cell_count (both_left _ _ e);
      form = same_queue q (queue_of (normal M 0 (events_of q))) (both_left _ _ a);
      distinct = both_left _ _ b;
      near = both_right (distinctb (events_of q)) _ b;
    }

module _ (M D : ℕ) (q : Queue) (s : Sound M D q) where
  pub sound_cells : cells_of q ≡ normal M 0 (events_of q)
  sound_cells = made_cells q (normal M 0 (events_of q)) s.form

  pub sound_again : q ≡ queue_of (cells_of q)
  sound_again = made_again q (normal M 0 (events_of q)) s.form

  pub sound_full : length q.cells ≡ cell_count
  sound_full =
      let e : q.cells ≡ padded (cell 0 0) cell_count (cells_of q) = made_row q (cells_of q) sound_again in
      let n : q.len ≡ length (cells_of q) = made_len q (cells_of q) sound_again in
      ap length e ∙ simp (length-append, length-replicate) (omega (arith, s.short))

-- the events of a queue made of a normal form
pub events_made : (M : ℕ) (es : List Event) → Sorted 0 es → Proper es → events_of (queue_of (normal M 0 es)) ≡ es
events_made M es s p = ap (events_from 0) (cells_of_queue_of (normal M 0 es)) ∙ round_trip M 0 es s p

-- a queue is sound where its events are in order, none a filler, near and distinct, and their cells few enough
pub sound_made : (M D : ℕ) (es : List Event) → Sorted 0 es → Proper es → nearb D es ≡ true → distinctb es ≡ true → length (normal M 0 es) ≤ cell_count
    → soundb M D (queue_of (normal M 0 es)) ≡ true
unfolding soundb
sound_made M D es s p n d h =
    let e : events_of (queue_of (normal M 0 es)) ≡ es = events_made M es s p in
    let l : leb (queue_of (normal M 0 es)).len cell_count ≡ true = unfold queue_of in le-leb (length (normal M 0 es)) cell_count h in
    rw (l, e, queue_self (queue_of (normal M 0 es)), d, n)

-- the empty queue has none
pub empty_events : events_of (queue_of []) ≡ []
empty_events = events_made 1 [] tt tt
