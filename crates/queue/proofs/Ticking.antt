-- The clock and the take on cells: on the normal form they are the clock and the take on the events, over any largest gap M. Assumes nothing.
use mathlib.Core.Path.{◌≡◌, refl, sym, ap, ◌∙◌}
use mathlib.Core.Bool.{Bool, true, false}
use mathlib.Core.List.{List, [], ◌∷◌, ◌++◌}
use Prim.Native.Nat.{ℕ, zero, suc, ◌+◌, ◌-◌, ◌*◌, ◌/◌, ◌≤◌, ◌<◌}
use native.Mathlib.Omega.{arith}
use native.Mathlib.Numerals.{add-one}
use native.Mathlib.Nat.{zero-mul, suc-mul}
use Rattle.std.specs.List.{copy_within}
use lib.Dec.{eqb}
use lib.ListN.{length, get_or, take, drop, set, replicate, length-drop}
use lib.Seq.{length-take-le, drop-cons, set_at}
use borrow.Author.Tests.{eq-eqb, ne_eqb, lt-ltb, le-ltb, le-leb, eqb-true, eqb-false}
use Rattle.small.specs.Small.{pick, both, padded}
use Rattle.queue.specs.Limits.{cell_count, filler}
use Rattle.queue.specs.Row.{Event, cell, cells_of, queue_of, events_of, chain, cells_for, normal}
use Rattle.queue.specs.Calls.{dueb, earlier, due_id, without_due, formed}
use Rattle.queue.specs.Steps.{first_cell, due_step, less_head, nearer_step, rest_step, tick_step}
use Rattle.queue.specs.Moves.{down}
use Rattle.queue.specs.declared.Cell.{Cell}
use Rattle.queue.specs.declared.Queue.{Queue}
use Rattle.queue.proofs.Cells.{made_cells, made_len, made_row, made_past, rest_cells}
use Rattle.queue.specs.Meaning.{Sorted}
use Rattle.queue.proofs.Normal.{Proper, sorted_events, proper_events, chain_of_lem, one_cell, split}
use Rattle.queue.proofs.SoundLaws.{Sound}
use Rattle.queue.proofs.Events.{normal_earlier, not_due, due_later, due_first}

-- ON ARRAYS: what moves and stores come to

-- the first j elements moved one place down
pub copied_down : (xs : List Cell) (j n : ℕ) → n ≡ j + 1 → copy_within xs 1 n 0 ≡ down j xs
copied_down xs j n e =
    let a : n - 1 ≡ j = omega arith in
    let b : 0 + j ≡ j = omega arith in
    rw (a, b)

-- a store at the place that is left
pub down_store : (xs : List Cell) (n : ℕ) (z : Cell) → n < length xs → set (down n xs) n z ≡ take n (drop 1 xs) ++ (z ∷ drop (n + 1) xs)
down_store xs n z h =
    let k : length (take n (drop 1 xs)) ≡ n = length-take-le n (drop 1 xs) (rw length-drop (omega arith)) in
    rw (add-one, drop-cons xs n (cell 0 0) h) (set_at (take n (drop 1 xs)) (get_or xs n (cell 0 0)) (drop (suc n) xs) z n k)

-- and at the next too
stores : (j : ℕ) (c : Cell) (ys : List Cell) (x y : Cell) → j < length ys
    → set (set (take j ys ++ drop j (c ∷ ys)) (suc j) y) j x ≡ take j ys ++ (x ∷ y ∷ drop (suc j) ys)
stores j c [] x y h = absurd (omega arith)
stores zero c (z ∷ ys) x y h = refl
stores (suc j) c (z ∷ ys) x y h = ap {B = List Cell} (λ l. z ∷ l) (stores j z ys x y (omega arith))

pub down_stores : (xs : List Cell) (j : ℕ) (x y : Cell) → j + 1 < length xs
    → set (set (down j xs) (j + 1) y) j x ≡ take j (drop 1 xs) ++ (x ∷ y ∷ drop (j + 1 + 1) xs)
down_stores [] j x y h = absurd (omega arith)
down_stores (c ∷ ys) j x y h = rw (add-one, add-one) (stores j c ys x y (omega arith))

-- ON CELLS

-- the first cell is due now
abbrev pub nowb : List Cell → Bool
nowb [] = false
nowb (c ∷ cs) = eqb c.gap 0

-- the first gap falls by 1, and a filler that reaches 0 goes
abbrev pub tick_cells : List Cell → List Cell
tick_cells [] = []
tick_cells (c ∷ cs) = pick (both (eqb c.id filler) (eqb c.gap 1)) cs (cell c.id (c.gap - 1) ∷ cs)

-- what the total steps are on a queue that is made of cells
module _ (q : Queue) where
  pub made_due : (cs : List Cell) → q ≡ queue_of cs → due_step q ≡ nowb cs
  unfolding due_step
  made_due [] e = let l : q.len ≡ 0 = made_len q [] e in rw (le-ltb 0 q.len (omega arith))
  made_due (c ∷ cs) e = let l : q.len ≡ suc (length cs) = made_len q (c ∷ cs) e in rw (lt-ltb 0 q.len (omega arith), made_row q (c ∷ cs) e)

  pub made_rest : (c : Cell) (cs : List Cell) → q ≡ queue_of (c ∷ cs) → q.len ≤ cell_count → rest_step q ≡ queue_of cs
  unfolding rest_step queue_of
  made_rest c cs e h =
      let l : q.len ≡ suc (length cs) = made_len q (c ∷ cs) e in
      let k : suc (cell_count - q.len) ≡ cell_count - length cs = omega arith in
      let z : drop q.len q.cells ≡ replicate (cell_count - q.len) (cell 0 0) = made_past q (c ∷ cs) e q.len (omega arith) in
      let f : drop 1 (cells_of q) ++ (cell 0 0 ∷ drop q.len q.cells) ≡ padded (cell 0 0) cell_count cs =
      rw (made_cells q (c ∷ cs) e, z) (ap (λ (n : ℕ). cs ++ replicate n (cell 0 0)) k) in
      let m : q.len - 1 ≡ length cs = omega arith in
      rw (le-leb 1 q.len (omega arith), le-leb q.len cell_count h) (λ i. record { cells = f i; len = m i })

  pub made_nearer : (c : Cell) (cs : List Cell) → q ≡ queue_of (c ∷ cs) → nearer_step q ≡ queue_of (cell c.id (c.gap - 1) ∷ cs)
  unfolding nearer_step queue_of
  made_nearer c cs e =
      let f : less_head q.cells ≡ padded (cell 0 0) cell_count (cell c.id (c.gap - 1) ∷ cs) = rw (made_row q (c ∷ cs) e) in
      let l : q.len ≡ suc (length cs) = made_len q (c ∷ cs) e in
      λ i. record { cells = f i; len = l i }

  pub made_first : (c : Cell) (cs : List Cell) → q ≡ queue_of (c ∷ cs) → first_cell q ≡ c
  made_first c cs e = rw (made_row q (c ∷ cs) e)

  pub made_tick : (cs : List Cell) → q ≡ queue_of cs → q.len ≤ cell_count → tick_step q ≡ queue_of (tick_cells cs)
  unfolding tick_step
  made_tick [] e h = let l : q.len ≡ 0 = made_len q [] e in rw (eq-eqb q.len 0 l) e
  made_tick (c ∷ cs) e h =
      let l : q.len ≡ suc (length cs) = made_len q (c ∷ cs) e in
      let n : eqb q.len 0 ≡ false = ne_eqb q.len 0 (λ z. omega arith) in
      rw (n, made_first c cs e) (go (both (eqb c.id filler) (eqb c.gap 1)))
    where
      go : (b : Bool) → pick b (rest_step q) (nearer_step q) ≡ queue_of (pick b cs (cell c.id (c.gap - 1) ∷ cs))
      go true = made_rest c cs e h
      go false = made_nearer c cs e

-- ON THE NORMAL FORM

-- the clock takes 1 off a gap
pub tick_chain : (M k id r : ℕ) (rest : List Cell) → eqb id filler ≡ false → 1 ≤ M → 1 ≤ r → r ≤ M
    → tick_cells (chain M k id r ++ rest) ≡ cells_for M (k * M + r - 1) id ++ rest
tick_chain M zero id r rest n m p h =
    let e : zero * M + r - 1 ≡ r - 1 = omega (arith, zero-mul M) in
    rw (n, e, one_cell M id (r - 1) m (omega arith))
tick_chain M (suc k) id r rest n m p h = go (eqb r 1) refl
  where
    go : (b : Bool) → eqb r 1 ≡ b → pick b (chain M k id M ++ rest) (cell filler (r - 1) ∷ (chain M k id M ++ rest)) ≡ cells_for M (suc k * M + r - 1) id ++ rest
    go true q =
        let a : r ≡ 1 = eqb-true r 1 q in
        let e : suc k * M + r - 1 ≡ k * M + M = omega (arith, suc-mul k M) in
        rw (e, chain_of_lem M k id M m (omega arith))
    go false q =
        let a : r ≡ 1 → ⊥ = eqb-false r 1 q in
        let b : 1 ≤ r - 1 = omega arith in
        let e : suc k * M + r - 1 ≡ suc k * M + (r - 1) = omega arith in
        rw (e, chain_of_lem M (suc k) id (r - 1) b (omega arith))

pub tick_cells_lem : (M g id : ℕ) (rest : List Cell) → eqb id filler ≡ false → 1 ≤ M → 1 ≤ g → tick_cells (cells_for M g id ++ rest) ≡ cells_for M (g - 1) id ++ rest
tick_cells_lem M g id rest n m p =
    let k = (g - 1) / M in
    let r = g - k * M in
    let s : (1 ≤ r) × (r ≤ M) × (g ≡ k * M + r) = split M g m p in
    let a : cells_for M g id ≡ chain M k id r = ap (λ (x : ℕ). cells_for M x id) s.2 ∙ chain_of_lem M k id r s.0 s.1 in
    let b : tick_cells (chain M k id r ++ rest) ≡ cells_for M (k * M + r - 1) id ++ rest = tick_chain M k id r rest n m s.0 s.1 in
    let e : k * M + r - 1 ≡ g - 1 = omega arith in
    rw a (b ∙ ap (λ (x : ℕ). cells_for M x id ++ rest) e)

-- THE CLOCK'S LAW
pub tick_normal : (M : ℕ) (es : List Event) → 1 ≤ M → Sorted 0 es → Proper es → dueb es ≡ false → tick_cells (normal M 0 es) ≡ normal M 0 (earlier es)
tick_normal M [] m s p d = refl
tick_normal M (e ∷ es) m s p d =
    let h : 1 ≤ e.at = not_due e es d in
    let a : e.at - 0 ≡ e.at = omega arith in
    let b : e.at - 1 - 0 ≡ e.at - 1 = omega arith in
    rw (a, b, normal_earlier M e.at es h s.1) (tick_cells_lem M e.at e.id (normal M e.at es) p.0 m h)

-- an event is due where the first cell has gap 0
pub now_chain : (M k id r : ℕ) (rest : List Cell) → nowb (chain M k id r ++ rest) ≡ eqb r 0
now_chain M zero id r rest = refl
now_chain M (suc k) id r rest = refl

pub due_now : (M : ℕ) (es : List Event) → 1 ≤ M → Sorted 0 es → dueb es ≡ nowb (normal M 0 es)
due_now M [] m s = refl
due_now M (e ∷ es) m s = go (eqb e.at 0) refl
  where
    go : (b : Bool) → eqb e.at 0 ≡ b → dueb (e ∷ es) ≡ nowb (normal M 0 (e ∷ es))
    go true q =
        let z : e.at - 0 ≡ 0 = omega (arith, eqb-true e.at 0 q) in
        rw (q, z, one_cell M e.id 0 m (omega arith))
    go false q =
        let h : 1 ≤ e.at = let n : e.at ≡ 0 → ⊥ = eqb-false e.at 0 q in omega arith in
        let a : e.at - 0 ≡ e.at = omega arith in
        let k = (e.at - 1) / M in
        let r = e.at - k * M in
        let w : (1 ≤ r) × (r ≤ M) × (e.at ≡ k * M + r) = split M e.at m h in
        let c : cells_for M e.at e.id ≡ chain M k e.id r = ap (λ (x : ℕ). cells_for M x e.id) w.2 ∙ chain_of_lem M k e.id r w.0 w.1 in
        let f : eqb r 0 ≡ false = ne_eqb r 0 (λ x. omega arith) in
        rw (q, a, c, now_chain M k e.id r (normal M e.at es), f) (due_later e.at es h s.1)

-- THE TAKE'S LAW: its cell goes, and no other changes
pub take_normal : (M : ℕ) (es : List Event) → 1 ≤ M → Sorted 0 es → dueb es ≡ true → normal M 0 es ≡ cell (due_id es) 0 ∷ normal M 0 (without_due es)
take_normal M es m s d =
    ap (normal M 0) (due_first es s d) ∙ ap (λ (l : List Cell). l ++ normal M 0 (without_due es)) (one_cell M (due_id es) 0 m (omega arith))

-- ON A SOUND QUEUE the steps are the calls' outcomes
module _ (M D : ℕ) (q : Queue) (m : 1 ≤ M) (s : Sound M D q) where
  abbrev es : List Event
  es = events_of q

  in_order : Sorted 0 es
  in_order = sorted_events 0 (cells_of q)

  pub sound_due : due_step q ≡ dueb (events_of q)
  sound_due = made_due q (normal M 0 es) s.form ∙ sym (due_now M es m in_order)

  pub sound_tick : dueb (events_of q) ≡ false → tick_step q ≡ formed M (earlier (events_of q))
  sound_tick d = made_tick q (normal M 0 es) s.form s.short ∙ ap queue_of (tick_normal M es m in_order (proper_events 0 (cells_of q)) d)

  made_take : dueb es ≡ true → q ≡ queue_of (cell (due_id es) 0 ∷ normal M 0 (without_due es))
  made_take d = s.form ∙ ap queue_of (take_normal M es m in_order d)

  pub sound_rest : dueb (events_of q) ≡ true → rest_step q ≡ formed M (without_due (events_of q))
  sound_rest d = made_rest q (cell (due_id es) 0) (normal M 0 (without_due es)) (made_take d) s.short

  pub sound_first_lem : dueb (events_of q) ≡ true → (first_cell q).id ≡ due_id (events_of q)
  sound_first_lem d = ap (λ (c : Cell). c.id) (made_first q (cell (due_id es) 0) (normal M 0 (without_due es)) (made_take d))

-- WHAT THE FIRST CELL'S GOING IS PROVED WITH
pub ruleset going = (copied_down, down_store, rest_cells)
