-- Laws of a walk over the cells: what one step does to the parts of the row, to what is left to place or to remove, and to the events behind.
-- Assumes nothing.
use mathlib.Core.Path.{◌≡◌, refl, sym, ap, ◌∙◌}
use mathlib.Core.Bool.{Bool, true, false}
use mathlib.Core.List.{List, [], ◌∷◌, ◌++◌, append_assoc}
use Prim.Native.Nat.{ℕ, ◌+◌, ◌-◌, ◌*◌, ◌≤◌, ◌<◌}
use native.Mathlib.Omega.{arith}
use Rattle.std.specs.Prelude.{Option, Some, None}
use Rattle.std.specs.Option.{is_some}
use lib.Dec.{eqb}
use lib.ListN.{length, take, drop}
use lib.Seq.{take-add, drop-drop}
use borrow.Author.Tests.{le-leb}
use Rattle.small.specs.Small.{pick}
use Rattle.queue.specs.Limits.{max_gap, filler}
use Rattle.queue.specs.Row.{Event, event, events_from}
use Rattle.queue.specs.Sound.{hasb}
use Rattle.queue.specs.Steps.{place_from}
use Rattle.queue.specs.Moves.{part, walk, pass_of, Walked, remove_from, Sought}
use Rattle.queue.specs.declared.Cell.{Cell}
use Rattle.queue.specs.declared.Walk.{Walk}
use Rattle.queue.specs.declared.Found.{Found}

-- PARTS OF A ROW

pub part_none : (from to : ℕ) (cs : List Cell) → to ≤ from → part from to cs ≡ []
part_none from to cs h = let e : to - from ≡ 0 = omega arith in rw e

-- the cells up to a place are those up to a place before it, and those from there on
pub take_part : (from to : ℕ) (cs : List Cell) → from ≤ to → take to cs ≡ take from cs ++ part from to cs
take_part from to cs h =
    let e : from + (to - from) ≡ to = omega arith in
    ap (λ (k : ℕ). take k cs) (sym e) ∙ take-add from (to - from) cs

-- one cell more
module _ (from i : ℕ) (c : Cell) (cs : List Cell) (h : from ≤ i) (here : drop i cs ≡ c ∷ drop (i + 1) cs) where
  pub part_more : part from (i + 1) cs ≡ part from i cs ++ (c ∷ [])
  part_more =
      let e : i + 1 - from ≡ i - from + 1 = omega arith in
      let f : from + (i - from) ≡ i = omega arith in
      rw (e, take-add (i - from) 1 (drop from cs), drop-drop (i - from) from cs, f, here)

  pub take_more : (rest : List Cell) → take from cs ++ (part from i cs ++ (c ∷ rest)) ≡ take (i + 1) cs ++ rest
  take_more rest = rw (take_part from (i + 1) cs (omega arith), part_more, append_assoc, append_assoc)

-- ONE STEP OF A WALK

abbrev pub past_filler : Walk → Cell → Walk
past_filler w c = walk (w.next + 1) w.start w.last (w.at + c.gap)

abbrev pub past_event : Walk → Cell → Walk
past_event w c = walk (w.next + 1) (w.next + 1) (w.at + c.gap) (w.at + c.gap)

-- a claim about the walk past a cell holds where it holds past a filler and past an event
pub pass_either : (P : Walk → Type 0) (w : Walk) (c : Cell)
    → (eqb c.id filler ≡ true → P (past_filler w c)) → (eqb c.id filler ≡ false → P (past_event w c)) → P (pass_of w c)
unfolding pass_of
pass_either P w c f g = go (eqb c.id filler) f g
  where
    go : (b : Bool) → (b ≡ true → P (past_filler w c)) → (b ≡ false → P (past_event w c)) → P (pick b (past_filler w c) (past_event w c))
    go true f g = f refl
    go false f g = g refl

pub walked_none : (cs : List Cell) → Walked cs (walk 0 0 0 0)
walked_none cs = record { start_by = omega arith; in_row = omega arith; last_by = omega arith; event = λ e. refl; small = omega arith }

pub walked_pass : (cs : List Cell) (w : Walk) (c : Cell) → Walked cs w → w.next < length cs → c.gap ≤ max_gap → Walked cs (pass_of w c)
walked_pass cs w c p h g =
    let m : w.at + c.gap ≤ max_gap * (w.next + 1) = omega arith in
    pass_either (Walked cs) w c
    (λ e. record { start_by = omega arith; in_row = omega arith; last_by = omega arith; event = λ f. absurd (omega (arith, p.start_by)); small = m })
    (λ e. record { start_by = omega arith; in_row = omega arith; last_by = omega arith; event = λ f. refl; small = m })

pub pass_next : (w : Walk) (c : Cell) → (pass_of w c).next ≡ w.next + 1
pass_next w c = pass_either (λ r. r.next ≡ w.next + 1) w c (λ e. refl) (λ e. refl)

pub pass_near : (d : ℕ) (w : Walk) (c : Cell) → w.at + c.gap ≤ d → (pass_of w c).at ≤ d
pass_near d w c k = pass_either (λ r. r.at ≤ d) w c (λ e. k) (λ e. k)

-- the row as a walk leaves it: the cells up to the last event that is passed, and what is still to do from there on
abbrev pub placing : ℕ → ℕ → ℕ → List Cell → Walk → List Cell
placing M id d cs w = take w.start cs ++ place_from M id d w.last w.at (part w.start w.next cs) (drop w.next cs)

abbrev pub removing : ℕ → ℕ → List Cell → Walk → List Cell
removing M id cs w = take w.start cs ++ remove_from M id w.last w.at (part w.start w.next cs) (drop w.next cs)

module _ (M id : ℕ) (cs : List Cell) (w : Walk) (c : Cell) (by : w.start ≤ w.next) (here : drop w.next cs ≡ c ∷ drop (w.next + 1) cs) where
  pub place_pass : (d : ℕ) → w.at + c.gap ≤ d → placing M id d cs w ≡ placing M id d cs (pass_of w c)
  place_pass d h =
      let t = le-leb (w.at + c.gap) d h in
      pass_either (λ r. placing M id d cs w ≡ placing M id d cs r) w c
      (λ e. rw (here, t, e, part_more w.start w.next c cs by here))
      (λ e. rw (here, t, e, part_none (w.next + 1) (w.next + 1) cs (omega arith)) (take_more w.start w.next c cs by here _))

  pub remove_pass : eqb c.id id ≡ false → removing M id cs w ≡ removing M id cs (pass_of w c)
  remove_pass n =
      pass_either (λ r. removing M id cs w ≡ removing M id cs r) w c
      (λ e. rw (here, e, part_more w.start w.next c cs by here))
      (λ e. rw (here, e, n, part_none (w.next + 1) (w.next + 1) cs (omega arith)) (take_more w.start w.next c cs by here _))

-- what passes by an event with the cell's id goes on behind the cell
pub events_pass : {A : Type 0} (f : List Event → A) (cs : List Cell) (w : Walk) (c : Cell) → drop w.next cs ≡ c ∷ drop (w.next + 1) cs
    → ((es : List Event) → f (event c.id (w.at + c.gap) ∷ es) ≡ f es)
    → f (events_from w.at (drop w.next cs)) ≡ f (events_from (pass_of w c).at (drop (pass_of w c).next cs))
events_pass f cs w c here p =
    pass_either (λ r. f (events_from w.at (drop w.next cs)) ≡ f (events_from r.at (drop r.next cs))) w c
    (λ e. rw (here, e))
    (λ e. rw (here, e) (p (events_from (w.at + c.gap) (drop (w.next + 1) cs))))

-- WHAT IS SOUGHT is found where it is there
pub sought_there : (cs : List Cell) (id : ℕ) (o : Option Found) → Sought cs id o → is_some o ≡ hasb id (events_from 0 cs)
sought_there cs id (Some f) s = sym s.there
sought_there cs id None s = sym s

-- WHAT A WALK WITHIN A DISTANCE IS PROVED WITH
pub ruleset walking = (walked_none, walked_pass, pass_next, pass_near, place_pass)
