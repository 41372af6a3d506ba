-- The first event put in again: what the code leaves when it moves each cell that the event passes one place down is the row that taking it out and putting it
-- in gives, where its new place is plain, over any largest gap M. Assumes nothing.
use mathlib.Core.Path.{◌≡◌, refl, sym, ap, ◌∙◌}
use mathlib.Core.Bool.{Bool, true, false}
use mathlib.Core.List.{List, [], ◌∷◌, ◌++◌, append_assoc}
use Prim.Native.Nat.{ℕ, suc, ◌+◌, ◌-◌, ◌*◌, ◌≤◌, ◌<◌}
use native.Mathlib.Omega.{arith}
use lib.Dec.{eqb}
use lib.ListN.{length, get_or, take, drop, set, length-append, length-drop, take-append-drop}
use lib.Seq.{get_or-drop, drop-drop, drop-append-add, drop-append-le, length-take-le, take_at, take-take}
use borrow.Author.Tests.{eqb-true, le-leb, lt-leb, le-ltb}
use Rattle.small.specs.Small.{pick}
use Rattle.small.proofs.Tests.{contrary}
use Rattle.queue.specs.Limits.{max_gap, cell_count, filler}
use Rattle.queue.specs.Row.{cell, cells_of, chain, cells_for}
use Rattle.queue.specs.Steps.{rest_step, regrouped, place_from, place_cells, place_step}
use Rattle.queue.specs.Moves.{fullb, plainb, Passed, queue_with, down}
use Rattle.queue.specs.declared.Cell.{Cell}
use Rattle.queue.specs.declared.Queue.{Queue}
use Rattle.queue.specs.declared.Walk.{Walk}
use Rattle.queue.proofs.Cells.{cells_length, cells_read, cells_step, cells_end, rest_cells}
use Rattle.queue.proofs.Normal.{chain_of_lem, one_cell}
use Rattle.queue.proofs.Placing.{place_chain}
use Rattle.queue.proofs.Ticking.{down_store, down_stores}

-- A PLAIN PLACE

-- a cell that begins the cells of an event, whatever its gap is: so many fillers, the event, and what stands behind it
pub record Chained (M : ℕ) (c : Cell) (cs : List Cell) : Type 0 where
  pub fillers : ℕ
  pub id : ℕ
  pub rest : List Cell
  pub event : eqb id filler ≡ false
  pub made : (g : ℕ) → cell c.id g ∷ cs ≡ chain M fillers id g ++ rest

-- an event by itself
chained_event : (M : ℕ) (c : Cell) (cs : List Cell) → eqb c.id filler ≡ false → Chained M c cs
chained_event M c cs e = record { fillers = 0; id = c.id; rest = cs; event = e; made = λ g. refl }

-- and a filler before cells that have the largest gap, up to an event
pub plain_chained : (M : ℕ) (c : Cell) (cs : List Cell) → pick (eqb c.id filler) (fullb M cs) true ≡ true → Chained M c cs
plain_chained M c [] p = go (eqb c.id filler) refl p
  where
    go : (b : Bool) → eqb c.id filler ≡ b → pick b false true ≡ true → Chained M c []
    go true e f = contrary f refl
    go false e f = chained_event M c [] e
plain_chained M c (x ∷ xs) p = go (eqb c.id filler) (eqb x.gap M) refl refl p (plain_chained M x xs)
  where
    go : (b l : Bool) → eqb c.id filler ≡ b → eqb x.gap M ≡ l → pick b (pick l (pick (eqb x.id filler) (fullb M xs) true) false) true ≡ true
        → (pick (eqb x.id filler) (fullb M xs) true ≡ true → Chained M x xs) → Chained M c (x ∷ xs)
    go true true e l f r =
        let y = r f in
        let full : x ∷ xs ≡ chain M y.fillers y.id M ++ y.rest =
        y.made x.gap ∙ ap (λ (n : ℕ). chain M y.fillers y.id n ++ y.rest) (eqb-true x.gap M l) in
        record {
          fillers = suc y.fillers;
          id = y.id;
          rest = y.rest;
          event = y.event;
          made = λ g. rw (eqb-true c.id filler e) (ap {B = List Cell} (λ k. cell filler g ∷ k) full);
        }
    go true false e l f r = contrary f refl
    go false l e k f r = chained_event M c (x ∷ xs) e

-- an event put in there is one cell, and only the next gap falls
pub place_plain : (M id d t : ℕ) (c : Cell) (cs : List Cell) → 1 ≤ M → c.gap ≤ M → t ≤ d → d < t + c.gap → plainb M (d - t) (c ∷ cs) ≡ true
    → place_from M id d t t [] (c ∷ cs) ≡ cell id (d - t) ∷ cell c.id (c.gap - (d - t)) ∷ cs
place_plain M id d t c cs m g h l p =
    let x = plain_chained M c cs p in
    let k = x.fillers in
    let r = c.gap - (d - t) in
    let s : t + (c.gap + k * M) - d ≡ k * M + r = omega arith in
    ap (place_from M id d t t []) (x.made c.gap)
    ∙ place_chain M k id d t t x.id c.gap [] x.rest x.event
    ∙ rw (lt-leb (t + (c.gap + k * M)) d (omega arith), one_cell M id (d - t) m (omega arith), s, chain_of_lem M k x.id r (omega arith) (omega arith))
    (ap {B = List Cell} (λ k. cell id (d - t) ∷ k) (sym (x.made r)))

-- THE WALK past the cells behind the first: each is moved down. Where the last of them is no filler, nothing is held back

-- in a function's proof `full` is what owning the queue tells
module _ (q : Queue) (full : length q.cells ≡ cell_count) (fits : q.len ≤ cell_count) (M id d : ℕ) (w : Walk) (p : Passed (drop 1 (cells_of q)) d w) (e : w.start ≡ w.next)
    (in_row : w.next < q.len) (large : max_gap ≤ M) where
  -- what stands behind the cells that are passed
  pub passed_behind : drop w.next (drop 1 (cells_of q)) ≡ drop (w.next + 1) (cells_of q)
  passed_behind = let f : 1 + w.next ≡ w.next + 1 = omega arith in drop-drop w.next 1 (cells_of q) ∙ ap (λ (j : ℕ). drop j (cells_of q)) f

  -- the row: the cells that are moved, the event, and what comes of those that are left
  moved_row : place_cells M id d (drop 1 (cells_of q)) ≡ take w.next (drop 1 q.cells) ++ (cells_for M (d - w.at) id ++ regrouped M w.at d (drop (w.next + 1) (cells_of q)))
  moved_row =
      let t : take w.next (drop 1 (cells_of q)) ≡ take w.next (drop 1 q.cells) =
      ap (take w.next) (rest_cells q) ∙ take-take w.next (q.len - 1) (drop 1 q.cells) (omega arith) in
      p.row M id ∙ rw (e, p.walked.event e, passed_behind, t)

  -- the cell behind is further away
  pub passed_beyond : w.next + 1 < q.len → let c = get_or q.cells (w.next + 1) (cell 0 0) in (d < w.at + c.gap) × (c.gap ≤ M)
  passed_beyond h =
      let n : length (drop 1 (cells_of q)) ≡ q.len - 1 = rw (length-drop, cells_length q full fits) in
      let f : 1 + w.next ≡ w.next + 1 = omega arith in
      let g : get_or (drop 1 (cells_of q)) w.next (cell 0 0) ≡ get_or q.cells (w.next + 1) (cell 0 0) =
      rw f at (get_or-drop 1 (cells_of q) w.next (cell 0 0)) ∙ cells_read q full fits (w.next + 1) h in
      let b = p.beyond (omega arith) in
      (rw g at b.0, omega (arith, rw g at b.1))

-- WHAT IS STORED

-- an event put in where there is room
placed_room : (M id d : ℕ) (p : Queue) (row : List Cell) → place_cells M id d (cells_of p) ≡ row → p.len ≤ cell_count → length row ≤ cell_count
    → (place_step M p id d).queue ≡ queue_with (row ++ drop (length row) p.cells) (length row)
unfolding place_step
placed_room M id d p row e h k = rw (e, le-ltb cell_count p.len h, le-ltb cell_count (length row) k)

-- the cells in use of an array that begins with them
cells_with : (xs ys : List Cell) (n : ℕ) → length xs ≡ n → cells_of (queue_with (xs ++ ys) n) ≡ xs
unfolding cells_of
cells_with xs ys n h = take_at xs ys n h

module _ (q : Queue) (full : length q.cells ≡ cell_count) (fits : q.len ≤ cell_count) (M id d : ℕ) where
  -- the first cell taken out and an event put in, with as many cells then as before: the array past the row is as it was
  again_row : (row : List Cell) → 1 ≤ q.len → place_cells M id d (drop 1 (cells_of q)) ≡ row → length row ≡ q.len
      → queue_with (row ++ drop q.len q.cells) q.len ≡ (place_step M (rest_step q) id d).queue
  unfolding rest_step
  again_row row h e l =
      let rest = drop 1 (cells_of q) in
      let past = cell 0 0 ∷ drop q.len q.cells in
      let n : length rest ≡ q.len - 1 = rw (length-drop, cells_length q full fits) in
      let p = queue_with (rest ++ past) (q.len - 1) in
      let a : rest_step q ≡ p = rw (le-leb 1 q.len h, le-leb q.len cell_count fits) in
      let b : cells_of p ≡ rest = cells_with rest past (q.len - 1) n in
      let k : q.len - 1 + 1 ≡ q.len = omega arith in
      let f : drop q.len (rest ++ past) ≡ drop q.len q.cells = rw (n, k) at (drop-append-add rest past 1) in
      sym (rw a (placed_room M id d p row (rw b e) (omega arith) (omega arith) ∙ rw (l, f)))

  -- the cells from a place on, in use or not
  all_behind : (i : ℕ) → i ≤ q.len → drop i (cells_of q) ++ drop q.len q.cells ≡ drop i q.cells
  unfolding cells_of
  all_behind i h =
      let l : length (take q.len q.cells) ≡ q.len = length-take-le q.len q.cells (omega arith) in
      sym (drop-append-le i (take q.len q.cells) (drop q.len q.cells) (omega arith)) ∙ ap (drop i) (take-append-drop q.len q.cells)

  module _ (w : Walk) (p : Passed (drop 1 (cells_of q)) d w) (e : w.start ≡ w.next) (in_row : w.next < q.len) (large : max_gap ≤ M) where
    -- behind all cells: the event is the last
    pub again_last : q.len ≤ w.next + 1 → d - w.at ≤ M → queue_with (set (down w.next q.cells) w.next (cell id (d - w.at))) q.len ≡ (place_step M (rest_step q) id d).queue
    again_last h g =
        let head = take w.next (drop 1 q.cells) in
        let x = cell id (d - w.at) in
        let l : length head ≡ w.next = length-take-le w.next (drop 1 q.cells) (rw length-drop (omega arith)) in
        let r : place_cells M id d (drop 1 (cells_of q)) ≡ head ++ (x ∷ []) =
        moved_row q full fits M id d w p e in_row large ∙ rw (cells_end q full fits (w.next + 1) h, one_cell M id (d - w.at) (omega arith) g) in
        let k : w.next + 1 ≡ q.len = omega arith in
        let s : set (down w.next q.cells) w.next x ≡ (head ++ (x ∷ [])) ++ drop q.len q.cells =
        rw append_assoc (rw k at (down_store q.cells w.next x (omega arith))) in
        ap (λ (cs : List Cell). queue_with cs q.len) s ∙ again_row (head ++ (x ∷ [])) (omega arith) r (rw (length-append, l) (omega arith))

    -- before a cell, at a plain place
    pub again_within : w.next + 1 < q.len → let c = get_or q.cells (w.next + 1) (cell 0 0) in
        plainb M (d - w.at) (drop (w.next + 1) (cells_of q)) ≡ true
        → queue_with (set (set (down w.next q.cells) (w.next + 1) (cell c.id (c.gap - (d - w.at)))) w.next (cell id (d - w.at))) q.len
        ≡ (place_step M (rest_step q) id d).queue
    again_within h t =
        let c = get_or q.cells (w.next + 1) (cell 0 0) in
        let head = take w.next (drop 1 q.cells) in
        let x = cell id (d - w.at) in
        let y = cell c.id (c.gap - (d - w.at)) in
        let tail = drop (w.next + 1 + 1) (cells_of q) in
        let b = passed_beyond q full fits M id d w p e in_row large h in
        let l : length head ≡ w.next = length-take-le w.next (drop 1 q.cells) (rw length-drop (omega arith)) in
        let j : length tail ≡ q.len - (w.next + 1 + 1) = rw (length-drop, cells_length q full fits) in
        let here = cells_step q full fits (w.next + 1) h in
        let u : plainb M (d - w.at) (c ∷ tail) ≡ true = rw here at t in
        let v : cells_for M (d - w.at) id ++ regrouped M w.at d (c ∷ tail) ≡ x ∷ y ∷ tail =
        rw (lt-leb (w.at + c.gap) d b.0) at (place_plain M id d w.at c tail (omega arith) b.1 p.near b.0 u) in
        let r : place_cells M id d (drop 1 (cells_of q)) ≡ head ++ (x ∷ y ∷ tail) = moved_row q full fits M id d w p e in_row large ∙ rw here (ap (λ (z : List Cell). head ++ z) v) in
        let s : set (set (down w.next q.cells) (w.next + 1) y) w.next x ≡ (head ++ (x ∷ y ∷ tail)) ++ drop q.len q.cells =
        rw (append_assoc, all_behind (w.next + 1 + 1) (omega arith)) (down_stores q.cells w.next x y (omega arith)) in
        ap (λ (cs : List Cell). queue_with cs q.len) s ∙ again_row (head ++ (x ∷ y ∷ tail)) (omega arith) r (rw (length-append, l, j) (omega arith))
