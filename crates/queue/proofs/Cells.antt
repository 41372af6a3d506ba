-- Laws of the queue as a list of cells: what its array holds, and how a loop walks it. Assumes nothing.
use mathlib.Core.Path.{◌≡◌, refl, sym, ap, ◌∙◌}
use mathlib.Core.List.{List, [], ◌∷◌, ◌++◌}
use Prim.Native.Nat.{ℕ, zero, suc, ◌+◌, ◌-◌, ◌≤◌, ◌<◌}
use native.Mathlib.Omega.{arith}
use native.Mathlib.Numerals.{add-one}
use lib.ListN.{length, get_or, take, drop, replicate, drop_of_length-le}
use lib.Seq.{drop-append-add, drop-cons, get_or-take, length-take-le, take-nil}
use Rattle.small.specs.Small.{padded}
use Rattle.small.proofs.Padded.{take_padded}
use Rattle.queue.specs.Limits.{cell_count}
use Rattle.queue.specs.Row.{cell, cells_of, queue_of}
use Rattle.queue.specs.declared.Cell.{Cell}
use Rattle.queue.specs.declared.Queue.{Queue}

pub cells_of_queue_of : (cs : List Cell) → cells_of (queue_of cs) ≡ cs
unfolding cells_of queue_of
cells_of_queue_of cs = take_padded (cell 0 0) cell_count cs

-- of a queue that is known to be made of a list
module _ (q : Queue) (cs : List Cell) (e : q ≡ queue_of cs) where
  pub made_cells : cells_of q ≡ cs
  made_cells = ap cells_of e ∙ cells_of_queue_of cs

  pub made_len : q.len ≡ length cs
  unfolding queue_of
  made_len = ap (λ (p : Queue). p.len) e

  pub made_row : q.cells ≡ padded (cell 0 0) cell_count cs
  unfolding queue_of
  made_row = ap (λ (p : Queue). p.cells) e

  pub made_again : q ≡ queue_of (cells_of q)
  made_again = e ∙ ap queue_of (sym made_cells)

-- past the cells of a list only the zero cells are left
drop_zeros : (k n : ℕ) → drop k (replicate n (cell 0 0)) ≡ replicate (n - k) (cell 0 0)
drop_zeros zero n = let e : n - 0 ≡ n = omega arith in rw e
drop_zeros (suc k) zero = let e : 0 - suc k ≡ 0 = omega arith in rw e
drop_zeros (suc k) (suc n) = let e : suc n - suc k ≡ n - k = omega arith in rw e (drop_zeros k n)

pub made_past : (q : Queue) (cs : List Cell) → q ≡ queue_of cs → (k : ℕ) → length cs ≤ k → drop k q.cells ≡ replicate (cell_count - k) (cell 0 0)
made_past q cs e k h =
    let a : length cs + (k - length cs) ≡ k = omega arith in
    let b : cell_count - length cs - (k - length cs) ≡ cell_count - k = omega arith in
    let d : drop (length cs + (k - length cs)) (cs ++ replicate (cell_count - length cs) (cell 0 0)) ≡ replicate (cell_count - length cs - (k - length cs)) (cell 0 0) =
    drop-append-add cs (replicate (cell_count - length cs) (cell 0 0)) (k - length cs) ∙ drop_zeros (k - length cs) (cell_count - length cs) in
    rw (made_row q cs e) (rw (a, b) at d)

-- a walk over the cells in use; in a function's proof `full` is what owning the queue tells
module _ (q : Queue) (full : length q.cells ≡ cell_count) (fits : q.len ≤ cell_count) where
  pub cells_length : length (cells_of q) ≡ q.len
  unfolding cells_of
  cells_length = length-take-le q.len q.cells (omega arith)

  pub cells_read : (i : ℕ) → i < q.len → get_or (cells_of q) i (cell 0 0) ≡ get_or q.cells i (cell 0 0)
  unfolding cells_of
  cells_read i k = get_or-take q.len q.cells i (cell 0 0) k

  pub cells_step : (i : ℕ) → i < q.len → drop i (cells_of q) ≡ get_or q.cells i (cell 0 0) ∷ drop (i + 1) (cells_of q)
  unfolding cells_of
  cells_step i k =
      let m : length (take q.len q.cells) ≡ q.len = cells_length in
      let e : get_or (take q.len q.cells) i (cell 0 0) ≡ get_or q.cells i (cell 0 0) = cells_read i k in
      rw (add-one, ← e) (drop-cons (take q.len q.cells) i (cell 0 0) (omega arith))

  pub cells_end : (i : ℕ) → q.len ≤ i → drop i (cells_of q) ≡ []
  unfolding cells_of
  cells_end i k = let m : length (take q.len q.cells) ≡ q.len = cells_length in drop_of_length-le (take q.len q.cells) {i = i} (omega arith)

-- the cells in use but the first
drop_take : (n : ℕ) (cs : List Cell) → drop 1 (take n cs) ≡ take (n - 1) (drop 1 cs)
drop_take zero cs = refl
drop_take (suc n) [] = let e : suc n - 1 ≡ n = omega arith in rw e (sym (take-nil n))
drop_take (suc n) (c ∷ cs) = let e : suc n - 1 ≡ n = omega arith in rw e

pub rest_cells : (q : Queue) → drop 1 (cells_of q) ≡ take (q.len - 1) (drop 1 q.cells)
unfolding cells_of
rest_cells q = drop_take q.len q.cells
