-- Laws of pushing back: on the normal form every distance grows where the first gap does, when there is room, and when an event is at the longest
-- distance. Over any M and D. Assumes nothing.
use mathlib.Core.Path.{◌≡◌, refl, sym, ap, ◌∙◌}
use mathlib.Core.Bool.{Bool, true, false, not}
use mathlib.Core.List.{List, [], ◌∷◌, ◌++◌}
use Prim.Native.Nat.{ℕ, zero, suc, ◌+◌, ◌-◌, ◌*◌, ◌≤◌}
use native.Mathlib.Omega.{arith}
use native.Mathlib.Nat.{suc-mul}
use lib.Dec.{leb, ltb, eqb}
use lib.ListN.{length, drop, set}
use borrow.Author.Tests.{eq-eqb, ne_eqb, le-leb, lt-leb, lt-ltb, le-ltb, leb-true, eqb-true, eqb-false}
use Rattle.small.specs.Small.{pick, both, padded}
use Rattle.small.proofs.Tests.{both_left, both_right}
use Rattle.queue.specs.Limits.{cell_count, filler}
use Rattle.queue.specs.Row.{Event, cell, cells_of, queue_of, events_of, chain, fillers_for, cells_for, normal}
use Rattle.queue.specs.Sound.{nearb}
use Rattle.queue.specs.Calls.{later, farb, overfull}
use Rattle.queue.specs.Steps.{first_cell}
use Rattle.queue.specs.Moves.{normb, gaps_of, push_cells}
use Rattle.queue.specs.declared.Cell.{Cell}
use Rattle.queue.specs.declared.Queue.{Queue}
use Rattle.queue.proofs.Cells.{cells_length, cells_step, made_row, made_len}
use Rattle.queue.proofs.Normal.{chain_of_lem, one_cell, split, proper_events}
use Rattle.queue.proofs.Form.{normb_normal}
use Rattle.queue.proofs.SoundLaws.{Sound, sound_is, sound_again, sound_cells, sound_full}
use Rattle.queue.proofs.Scan.{near_end}

-- THE CELLS

-- the first gap of a chain grows
push_grows : (M k id r : ℕ) (cs : List Cell) → eqb r M ≡ false → push_cells M (chain M k id r ++ cs) ≡ chain M k id (r + 1) ++ cs
push_grows M zero id r cs h = rw h
push_grows M (suc k) id r cs h = rw h

-- or it is full, and the chain becomes one longer
push_full : (M k id : ℕ) (cs : List Cell) → push_cells M (chain M k id M ++ cs) ≡ chain M (suc k) id 1 ++ cs
push_full M zero id cs = rw (eq-eqb M M refl)
push_full M (suc k) id cs = rw (eq-eqb M M refl)

push_chain : (M k id r : ℕ) (cs : List Cell) → 1 ≤ r → r ≤ M → push_cells M (chain M k id r ++ cs) ≡ cells_for M (k * M + r + 1) id ++ cs
push_chain M k id r cs p l = go (eqb r M) refl
  where
    go : (b : Bool) → eqb r M ≡ b → push_cells M (chain M k id r ++ cs) ≡ cells_for M (k * M + r + 1) id ++ cs
    go true q =
        let f : r ≡ M = eqb-true r M q in
        let n : k * M + M + 1 ≡ suc k * M + 1 = omega (arith, suc-mul k M) in
        rw (f, n, chain_of_lem M (suc k) id 1 (omega arith) (omega arith)) (push_full M k id cs)
    go false q =
        let f : r ≡ M → ⊥ = eqb-false r M q in
        let n : k * M + r + 1 ≡ k * M + (r + 1) = omega arith in
        rw (n, chain_of_lem M k id (r + 1) (omega arith) (omega arith)) (push_grows M k id r cs q)

-- so a gap of any length grows by 1
push_cells_lem : (M g id : ℕ) (cs : List Cell) → 1 ≤ M → push_cells M (cells_for M g id ++ cs) ≡ cells_for M (g + 1) id ++ cs
push_cells_lem M g id cs m = go (eqb g 0) refl
  where
    go : (b : Bool) → eqb g 0 ≡ b → push_cells M (cells_for M g id ++ cs) ≡ cells_for M (g + 1) id ++ cs
    go true q =
        let z : g ≡ 0 = eqb-true g 0 q in
        rw (one_cell M id g m (omega arith), one_cell M id (g + 1) m (omega arith), ne_eqb g M (λ e. omega arith))
    go false q =
        let h : 1 ≤ g = let x : g ≡ 0 → ⊥ = eqb-false g 0 q in omega arith in
        let k = fillers_for M g in
        let w = split M g m h in
        let a : cells_for M g id ≡ chain M k id (g - k * M) = unfold cells_for in refl in
        let e : k * M + (g - k * M) + 1 ≡ g + 1 = ap (λ (x : ℕ). x + 1) (sym w.2) in
        rw (a, ← e) (push_chain M k id (g - k * M) cs w.0 w.1)

-- counted from one tick later, the events one tick later have the same cells
later_shift : (M t : ℕ) (es : List Event) → normal M (t + 1) (later es) ≡ normal M t es
later_shift M t [] = refl
later_shift M t (e ∷ es) =
    let d : e.at + 1 - (t + 1) ≡ e.at - t = omega arith in
    rw (d, later_shift M e.at es)

-- and on the normal form every distance grows by 1
pub push_normal : (M : ℕ) (es : List Event) → 1 ≤ M → push_cells M (normal M 0 es) ≡ normal M 0 (later es)
push_normal M [] m = refl
push_normal M (e ∷ es) m =
    let a : e.at - 0 ≡ e.at = omega arith in
    let b : e.at + 1 - 0 ≡ e.at + 1 = omega arith in
    rw (a, b, later_shift M e.at es) (push_cells_lem M e.at e.id (normal M e.at es) m)

-- THE ROOM

-- at most one cell more
push_most : (M : ℕ) (cs : List Cell) → length (push_cells M cs) ≤ suc (length cs)
push_most M [] = omega arith
push_most M (c ∷ cs) = go (eqb c.gap M)
  where
    go : (b : Bool) → length (pick b (cell filler 1 ∷ c ∷ cs) (cell c.id (c.gap + 1) ∷ cs)) ≤ suc (suc (length cs))
    go true = omega arith
    go false = omega arith

-- and in a full row it is too many
push_over : (M : ℕ) (c : Cell) (cs : List Cell) → suc (length cs) ≡ cell_count → ltb cell_count (length (push_cells M (c ∷ cs))) ≡ eqb c.gap M
push_over M c cs h = go (eqb c.gap M)
  where
    go : (b : Bool) → ltb cell_count (length (pick b (cell filler 1 ∷ c ∷ cs) (cell c.id (c.gap + 1) ∷ cs))) ≡ b
    go true = lt-ltb cell_count (suc (suc (length cs))) (omega arith)
    go false = le-ltb cell_count (suc (length cs)) (omega arith)

module _ (q : Queue) (full : length q.cells ≡ cell_count) (fits : q.len ≤ cell_count) where
  pub first_cell_lem : 1 ≤ q.len → cells_of q ≡ first_cell q ∷ drop 1 (cells_of q)
  first_cell_lem h = cells_step q full fits 0 h

  -- a filler comes before a first gap that is full, and any other grows
  pub push_behind : (M : ℕ) → 1 ≤ q.len → (first_cell q).gap ≡ M → push_cells M (cells_of q) ≡ cell filler 1 ∷ cells_of q
  push_behind M h g =
      let e : cells_of q ≡ first_cell q ∷ drop 1 (cells_of q) = first_cell_lem h in
      ap (push_cells M) e ∙ rw (eq-eqb (first_cell q).gap M g) (ap {B = List Cell} (λ cs. cell filler 1 ∷ cs) (sym e))

  pub push_first : (M : ℕ) → 1 ≤ q.len → ((first_cell q).gap ≡ M → ⊥) → push_cells M (cells_of q) ≡ cell (first_cell q).id ((first_cell q).gap + 1) ∷ drop 1 (cells_of q)
  push_first M h g = ap (push_cells M) (first_cell_lem h) ∙ rw (ne_eqb (first_cell q).gap M g)

  -- one cell more is too many where all are in use and the first gap cannot grow
  pub push_room : (M : ℕ) → ltb cell_count (length (push_cells M (cells_of q))) ≡ both (eqb q.len cell_count) (eqb (first_cell q).gap M)
  push_room M = go (eqb q.len cell_count) refl
    where
      go : (b : Bool) → eqb q.len cell_count ≡ b → ltb cell_count (length (push_cells M (cells_of q))) ≡ both b (eqb (first_cell q).gap M)
      go true p =
          let n : q.len ≡ cell_count = eqb-true q.len cell_count p in
          let e : cells_of q ≡ first_cell q ∷ drop 1 (cells_of q) = first_cell_lem (omega arith) in
          ap (λ (cs : List Cell). ltb cell_count (length (push_cells M cs))) e
          ∙ push_over M (first_cell q) (drop 1 (cells_of q)) (sym (ap length e) ∙ cells_length q full fits ∙ n)
      go false p =
          let n : q.len ≡ cell_count → ⊥ = eqb-false q.len cell_count p in
          le-ltb cell_count (length (push_cells M (cells_of q))) (omega (arith, push_most M (cells_of q), cells_length q full fits))

-- THE QUEUE

-- another first cell
pub first_queue : (q : Queue) (c x : Cell) (cs : List Cell) → q ≡ queue_of (c ∷ cs) → ◌≡◌ {A = Queue} (record { cells = set q.cells 0 x; len = q.len }) (queue_of (x ∷ cs))
unfolding queue_of
first_queue q c x cs e =
    let r : q.cells ≡ padded (cell 0 0) cell_count (c ∷ cs) = made_row q (c ∷ cs) e in
    let n : q.len ≡ length (c ∷ cs) = made_len q (c ∷ cs) e in
    λ i. record { cells = set (r i) 0 x; len = n i }

-- THE LONGEST DISTANCE

-- where no event is beyond D, one is at D unless all are nearer
far_near : (D : ℕ) (es : List Event) → 1 ≤ D → nearb D es ≡ true → farb D es ≡ not (nearb (D - 1) es)
far_near D [] d h = refl
far_near D (e ∷ es) d h = go (eqb e.at D) refl (far_near D es d (both_right (leb e.at D) _ h))
  where
    go : (b : Bool) → eqb e.at D ≡ b → farb D es ≡ not (nearb (D - 1) es) → pick b true (farb D es) ≡ not (both (leb e.at (D - 1)) (nearb (D - 1) es))
    go true q r = let z : e.at ≡ D = eqb-true e.at D q in rw (lt-leb e.at (D - 1) (omega arith))
    go false q r =
        let z : e.at ≡ D → ⊥ = eqb-false e.at D q in
        let l : e.at ≤ D = leb-true e.at D (both_left _ _ h) in
        rw (le-leb e.at (D - 1) (omega arith)) r

-- ON A SOUND QUEUE

module _ (M D : ℕ) (q : Queue) (m : 1 ≤ M) (s : Sound M D q) where
  pub push_events : push_cells M (cells_of q) ≡ normal M 0 (later (events_of q))
  push_events = ap (push_cells M) (sound_cells M D q s) ∙ push_normal M (events_of q) m

  pub push_overfull : overfull M (later (events_of q)) ≡ both (eqb q.len cell_count) (eqb (first_cell q).gap M)
  push_overfull = ap (λ (cs : List Cell). ltb cell_count (length cs)) (sym push_events) ∙ push_room q (sound_full M D q s) s.short M

  -- the sum of the gaps is the longest distance: a bound holds for it where it does for all
  near_sum : (d : ℕ) → nearb d (events_of q) ≡ leb (gaps_of (cells_of q)) d
  near_sum d =
      let z : 0 + gaps_of (cells_of q) ≡ gaps_of (cells_of q) = omega arith in
      let n : normb M false (cells_of q) ≡ true = ap (normb M false) (sound_cells M D q s) ∙ normb_normal M 0 (events_of q) m (proper_events 0 (cells_of q)) in
      rw z at (near_end M d 0 false (cells_of q) n (λ p. omega arith))

  pub far_end : 1 ≤ D → farb D (events_of q) ≡ eqb (gaps_of (cells_of q)) D
  far_end d = far_near D (events_of q) d s.near ∙ ap not (near_sum (D - 1)) ∙ go (eqb (gaps_of (cells_of q)) D) refl
    where
      go : (b : Bool) → eqb (gaps_of (cells_of q)) D ≡ b → not (leb (gaps_of (cells_of q)) (D - 1)) ≡ b
      go true p = let e : gaps_of (cells_of q) ≡ D = eqb-true (gaps_of (cells_of q)) D p in rw (lt-leb (gaps_of (cells_of q)) (D - 1) (omega arith))
      go false p =
          let n : gaps_of (cells_of q) ≡ D → ⊥ = eqb-false (gaps_of (cells_of q)) D p in
          let l : gaps_of (cells_of q) ≤ D = leb-true (gaps_of (cells_of q)) D (sym (near_sum D) ∙ s.near) in
          rw (le-leb (gaps_of (cells_of q)) (D - 1) (omega arith))

-- WHAT PUSHING BACK IS PROVED WITH
pub ruleset pushing = (sound_is, sound_again, push_events, push_overfull, far_end)
