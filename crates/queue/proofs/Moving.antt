-- Laws of cells that are stored one after the other (`sets`), of the links of a chain, and of the queue that is left. Assumes nothing.
use mathlib.Core.Path.{◌≡◌, refl, sym, ap, ◌∙◌}
use mathlib.Core.List.{List, [], ◌∷◌, ◌++◌, append_assoc}
use Prim.Native.Nat.{ℕ, zero, suc, ◌+◌, ◌-◌, ◌*◌, ◌≤◌, ◌<◌}
use native.Mathlib.Omega.{arith}
use native.Mathlib.Numerals.{add-one}
use Rattle.std.specs.List.{copy_within}
use Rattle.std.proofs.lemmas.List.{drop-take}
use borrow.Author.Tests.{ne_eqb}
use lib.ListN.{length, take, drop, set, replicate, length-append, length-drop, length-replicate, replicate-append-replicate}
use lib.Seq.{set_comm, sets, sets-eq, take-take, length-take-le, take-append_seam}
use Rattle.queue.specs.Limits.{max_gap, cell_count, filler}
use Rattle.queue.specs.Row.{cell, cells_of, queue_of, chain, fillers_for, cells_for}
use Rattle.queue.specs.Moves.{link_of, links, links_of, chain_for, queue_with, spliced}
use Rattle.queue.specs.declared.Cell.{Cell}
use Rattle.queue.specs.declared.Chain.{Chain}
use Rattle.queue.specs.declared.Queue.{Queue}
use Rattle.queue.specs.declared.Rest.{Rest}
use Rattle.queue.proofs.Cells.{made_row, made_past, cells_length}

-- STORING

-- one store before the place of others may come after them
pub sets_set : (l : List Cell) (i j : ℕ) (x : Cell) (ys : List Cell) → i < j → set (sets l j ys) i x ≡ sets (set l i x) j ys
sets_set l i j x [] h = refl
sets_set l i j x (y ∷ ys) h =
    sets_set (set l j y) i (suc j) x ys (omega arith) ∙ ap (λ (m : List Cell). sets m (suc j) ys) (set_comm l j i y x (λ e. omega arith))

-- some cells stored before others: they are stored as one list
pub sets_before : (l : List Cell) (i j : ℕ) (xs ys : List Cell) → j ≡ i + length xs → sets (sets l j ys) i xs ≡ sets l i (xs ++ ys)
sets_before l i j [] ys e = let f : j ≡ i = omega arith in rw f
sets_before l i j (x ∷ xs) ys e =
    ap (λ (m : List Cell). sets m (suc i) xs) (sets_set l i j x ys (omega arith)) ∙ sets_before (set l i x) (suc i) j xs ys (omega arith)

-- and behind them
pub sets_behind : (l : List Cell) (i j : ℕ) (xs ys : List Cell) → j ≡ i + length xs → sets (sets l i xs) j ys ≡ sets l i (xs ++ ys)
sets_behind l i j [] ys e = let f : j ≡ i = omega arith in rw f
sets_behind l i j (x ∷ xs) ys e = sets_behind (set l i x) (suc i) j xs ys (omega arith)

-- cells stored in the array behind some of those in use: the row that they make, and the array past it
pub sets_row : (n i : ℕ) (l xs : List Cell) → i ≤ n → i + length xs ≤ length l
    → sets l i xs ≡ (take i (take n l) ++ xs) ++ drop (length (take i (take n l) ++ xs)) l
sets_row n i l xs h k =
    let e : length (take i l ++ xs) ≡ i + length xs = length-append (take i l) xs ∙ ap (λ (m : ℕ). m + length xs) (length-take-le i l (omega arith)) in
    rw (take-take i n l h, e) (sets-eq xs l i k)

-- a queue that is made of a list, with other cells from a place on and zero behind them as far as the list reached: it is made of the new row
pub made_sets : (q : Queue) (cs : List Cell) → q ≡ queue_of cs → (i k : ℕ) (xs : List Cell) → i ≤ length cs → length cs ≤ i + length xs + k → i + length xs + k ≤ cell_count
    → length q.cells ≡ cell_count → queue_with (sets q.cells i (xs ++ replicate k (cell 0 0))) (i + length xs) ≡ queue_of (take i cs ++ xs)
unfolding queue_of
made_sets q cs e i k xs a b d full =
    let zs = replicate k (cell 0 0) in
    let t : take (length cs) q.cells ≡ cs = rw (made_row q cs e) (take-append_seam cs (replicate (cell_count - length cs) (cell 0 0))) in
    let l : length (xs ++ zs) ≡ length xs + k = length-append xs zs ∙ ap (λ (m : ℕ). length xs + m) (length-replicate k (cell 0 0)) in
    let n : length (take i cs ++ xs) ≡ i + length xs = length-append (take i cs) xs ∙ ap (λ (m : ℕ). m + length xs) (length-take-le i cs a) in
    let w : length (take i cs ++ (xs ++ zs)) ≡ i + length xs + k = length-append (take i cs) (xs ++ zs) ∙ rw (length-take-le i cs a, l) (omega arith) in
    let f : sets q.cells i (xs ++ zs) ≡ (take i cs ++ (xs ++ zs)) ++ drop (length (take i cs ++ (xs ++ zs))) q.cells =
    rw t at (sets_row (length cs) i q.cells (xs ++ zs) a (omega arith)) in
    let z : drop (i + length xs + k) q.cells ≡ replicate (cell_count - (i + length xs + k)) (cell 0 0) = made_past q cs e (i + length xs + k) b in
    let r : k + (cell_count - (i + length xs + k)) ≡ cell_count - (i + length xs) = omega arith in
    let g : sets q.cells i (xs ++ zs) ≡ (take i cs ++ xs) ++ replicate (cell_count - (i + length xs)) (cell 0 0) =
    f ∙ rw (w, z, ← append_assoc (take i cs) xs zs, append_assoc (take i cs ++ xs) zs (replicate (cell_count - (i + length xs + k)) (cell 0 0)), replicate-append-replicate k (cell_count - (i + length xs + k)) (cell 0 0), r) in
    rw n (λ j. record { cells = g j; len = i + length xs })

-- MOVING

-- the cells in use from a place on, copied to another place
pub copied : (q : Queue) (from to : ℕ) → length q.cells ≡ cell_count → q.len ≤ cell_count → from ≤ q.len → to + (q.len - from) ≤ cell_count
    → copy_within q.cells from q.len to ≡ sets q.cells to (drop from (cells_of q))
unfolding cells_of
copied q from to full fits h k =
    let n = q.len - from in
    let e : from + n ≡ q.len = omega arith in
    let t : take n (drop from q.cells) ≡ drop from (take q.len q.cells) = rw e at (sym (drop-take from n q.cells)) in
    let l : length (take n (drop from q.cells)) ≡ n = length-take-le n (drop from q.cells) (rw length-drop (omega arith)) in
    let s = sets-eq (take n (drop from q.cells)) q.cells to (omega arith) in
    rw (← t) (rw append_assoc (sym (s ∙ rw (l, append_assoc))))

-- LINKS

pub links_first : (M k id g : ℕ) → 0 < k → links M k id g ≡ link_of (k - 1) id g ∷ links M (k - 1) id M
links_first M k id g h = let e : k ≡ suc (k - 1) = omega arith in ap (λ (j : ℕ). links M j id g) e

pub links_none : (M k id g : ℕ) → k ≤ 0 → links M k id g ≡ []
links_none M k id g h = let e : k ≡ 0 = omega arith in ap (λ (j : ℕ). links M j id g) e

pub links_length : (M k id g : ℕ) → length (links M k id g) ≡ k
links_length M zero id g = refl
links_length M (suc k) id g = ap suc (links_length M k id M)

links_chain : (M k id g : ℕ) → links M (suc k) id g ≡ chain M k id g
links_chain M zero id g = refl
links_chain M (suc k) id g = rw (ne_eqb (suc k) 0 (λ e. omega arith)) (ap {B = List Cell} (λ l. cell filler g ∷ l) (links_chain M k id M))

-- the links of a gap's chain are its cells
pub chain_cells : (M g id : ℕ) → links_of M (chain_for M g id) ≡ cells_for M g id
unfolding chain_for cells_for
chain_cells M g id = rw add-one (links_chain M (fillers_for M g) id (g - fillers_for M g * M))

-- SPLICING: a chain and what is left behind it, in a row of an array
module _ (q : Queue) (full : length q.cells ≡ cell_count) (fits : q.len ≤ cell_count) (start : ℕ) (own : Chain) (rest : Rest) (at : start ≤ q.len) (within : rest.behind ≤ q.len) where
  abbrev pub pieces : List Cell
  pieces = links_of max_gap own ++ (links_of max_gap rest.then ++ drop rest.behind (cells_of q))

  abbrev pub spliced_to : ℕ
  spliced_to = start + own.cells + rest.then.cells + (q.len - rest.behind)

  pub pieces_length : length pieces ≡ own.cells + (rest.then.cells + (q.len - rest.behind))
  pieces_length =
      let d : length (drop rest.behind (cells_of q)) ≡ q.len - rest.behind = rw (length-drop, cells_length q full fits) in
      rw (
        length-append (links_of max_gap own) (links_of max_gap rest.then ++ drop rest.behind (cells_of q)),
        length-append (links_of max_gap rest.then) (drop rest.behind (cells_of q)),
        links_length max_gap own.cells own.id own.gap,
        links_length max_gap rest.then.cells rest.then.id rest.then.gap,
        d,
      )

  -- the new row is as long as its parts are
  pub spliced_length : (row : List Cell) → row ≡ take start (cells_of q) ++ pieces → length row ≡ spliced_to
  spliced_length row e =
      let h : length (take start (cells_of q)) ≡ start = length-take-le start (cells_of q) (rw (cells_length q full fits) at) in
      ap length e ∙ rw (length-append (take start (cells_of q)) pieces, h, pieces_length) (omega arith)

  -- and the array past it is as it was
  pub spliced_row : (row : List Cell) → row ≡ take start (cells_of q) ++ pieces → spliced_to ≤ cell_count
      → spliced start own rest q ≡ queue_with (row ++ drop (length row) q.cells) (length row)
  unfolding spliced cells_of
  spliced_row row e h =
      let s = sets_row q.len start q.cells pieces at (omega (arith, pieces_length)) in
      let f : sets q.cells start pieces ≡ row ++ drop (length row) q.cells = s ∙ ap (λ (l : List Cell). l ++ drop (length l) q.cells) (sym e) in
      let n : spliced_to ≡ length row = sym (spliced_length row e) in
      λ j. record { cells = f j; len = n j }

-- WHAT A SPLICE IS PROVED WITH
pub ruleset splicing = (copied, sets_before, links_length)
