-- Putting an event in and taking one out, cell by cell, is what the definitions by events say, over any largest gap M: of cells in normal form
-- the walks of specs/Steps and specs/Moves give the normal form of the changed events. Assumes nothing.
use mathlib.Core.Path.{◌≡◌, refl, sym, ap, ◌∙◌}
use mathlib.Core.Bool.{Bool, true, false}
use mathlib.Core.List.{List, [], ◌∷◌, ◌++◌, append_assoc, append-nil}
use Prim.Native.Nat.{ℕ, zero, suc, ◌+◌, ◌-◌, ◌*◌, ◌/◌, ◌≤◌, ◌<◌}
use native.Mathlib.Omega.{arith}
use native.Mathlib.Nat.{div-mul-le_self, zero-mul, suc-mul}
use lib.Dec.{leb, ltb, eqb}
use lib.ListN.{length, drop}
use borrow.Author.Tests.{leb-true, leb-false, lt-leb, le-ltb}
use Rattle.small.specs.Small.{pick}
use Rattle.refusal.specs.Numbers.{no_room}
use Rattle.refusal.specs.Refusal.{check, first_of}
use Rattle.queue.specs.Limits.{cell_count, filler}
use Rattle.queue.specs.Row.{Event, event, cell, cells_of, queue_of, events_of, chain, cells_for, normal}
use Rattle.queue.specs.Calls.{changed, formed, overfull, with_event, without_event}
use Rattle.queue.specs.Steps.{regrouped, place_from, place_cells, place_step}
use Rattle.queue.specs.Moves.{remove_from, remove_cells}
use Rattle.queue.specs.declared.Cell.{Cell}
use Rattle.queue.specs.declared.Queue.{Queue}
use Rattle.queue.proofs.Cells.{made_len, made_past}
use Rattle.queue.specs.Meaning.{Sorted}
use Rattle.queue.proofs.Normal.{Proper, sorted_events, proper_events}
use Rattle.queue.proofs.SoundLaws.{Sound, sound_cells}
use Rattle.queue.proofs.Events.{with_more, without_fewer}

-- a gap is what its cells take
whole : (M g : ℕ) → g - (g - 1) / M * M + (g - 1) / M * M ≡ g
whole M g =
    let h : (g - 1) / M * M ≤ g - 1 = div-mul-le_self (g - 1) M in
    omega arith

-- COUNTED FROM ANOTHER TIME

pub regrouped_chain : (M k t u id r : ℕ) (cs : List Cell) → eqb id filler ≡ false → regrouped M t u (chain M k id r ++ cs) ≡ cells_for M (t + (r + k * M) - u) id ++ cs
regrouped_chain M zero t u id r cs n =
    let e : t + (r + zero * M) ≡ t + r = omega (arith, zero-mul M) in
    rw (n, e)
regrouped_chain M (suc k) t u id r cs n =
    let e : t + r + (M + k * M) ≡ t + (r + suc k * M) = omega (arith, suc-mul k M) in
    regrouped_chain M k (t + r) u id M cs n ∙ ap (λ (x : ℕ). cells_for M (x - u) id ++ cs) e

pub regrouped_cells : (M t u g id : ℕ) (cs : List Cell) → eqb id filler ≡ false → regrouped M t u (cells_for M g id ++ cs) ≡ cells_for M (t + g - u) id ++ cs
unfolding cells_for
regrouped_cells M t u g id cs n =
    let k = (g - 1) / M in
    regrouped_chain M k t u id (g - k * M) cs n ∙ rw (whole M g)

pub regrouped_normal : (M t u : ℕ) (es : List Event) → Sorted t es → Proper es → regrouped M t u (normal M t es) ≡ normal M u es
regrouped_normal M t u [] s p = refl
regrouped_normal M t u (e ∷ es) s p =
    let a : t + (e.at - t) ≡ e.at = omega (arith, s.0) in
    regrouped_cells M t u (e.at - t) e.id (normal M e.at es) p.0 ∙ rw a

-- ONE EVENT MORE

-- what `place_from` gives of the cells of one gap that ends at the distance a
abbrev place_by : ℕ → ℕ → ℕ → ℕ → ℕ → ℕ → List Cell → List Cell → List Cell → List Cell
place_by M id d u a nid held gap cs =
    pick (leb a d) (held ++ (gap ++ place_from M id d a a [] cs)) (cells_for M (d - u) id ++ (cells_for M (a - d) nid ++ cs))

pub place_chain : (M k id d u t nid r : ℕ) (held cs : List Cell) → eqb nid filler ≡ false
    → place_from M id d u t held (chain M k nid r ++ cs) ≡ place_by M id d u (t + (r + k * M)) nid held (chain M k nid r) cs
place_chain M zero id d u t nid r held cs n =
    let e : t + (r + zero * M) ≡ t + r = omega (arith, zero-mul M) in
    rw (n, e)
place_chain M (suc k) id d u t nid r held cs n =
    let e : t + r + (M + k * M) ≡ t + (r + suc k * M) = omega (arith, suc-mul k M) in
    go (leb (t + r) d) refl (place_chain M k id d u (t + r) nid M (held ++ (cell filler r ∷ [])) cs n)
    ∙ ap (λ (x : ℕ). place_by M id d u x nid held (cell filler r ∷ chain M k nid M) cs) e
  where
    go : (b : Bool) → leb (t + r) d ≡ b
        → place_from M id d u (t + r) (held ++ (cell filler r ∷ [])) (chain M k nid M ++ cs) ≡ place_by M id d u (t + r + (M + k * M)) nid (held ++ (cell filler r ∷ [])) (chain M k nid M) cs
        → pick b (place_from M id d u (t + r) (held ++ (cell filler r ∷ [])) (chain M k nid M ++ cs)) (cells_for M (d - u) id ++ regrouped M (t + r) d (chain M k nid M ++ cs))
        ≡ place_by M id d u (t + r + (M + k * M)) nid held (cell filler r ∷ chain M k nid M) cs
    go true q h = h ∙ rw append_assoc
    go false q h =
        let l : d < t + r = leb-false (t + r) d q in
        rw (lt-leb (t + r + (M + k * M)) d (omega arith), regrouped_chain M k (t + r) d nid M cs n)

pub place_cells_lem : (M id d u t nid g : ℕ) (held cs : List Cell) → eqb nid filler ≡ false
    → place_from M id d u t held (cells_for M g nid ++ cs) ≡ place_by M id d u (t + g) nid held (cells_for M g nid) cs
unfolding cells_for
place_cells_lem M id d u t nid g held cs n =
    let k = (g - 1) / M in
    place_chain M k id d u t nid (g - k * M) held cs n ∙ rw (whole M g)

pub place_normal : (M id d t : ℕ) (es : List Event) → t ≤ d → Sorted t es → Proper es → place_from M id d t t [] (normal M t es) ≡ normal M t (with_event (event id d) es)
place_normal M id d t [] h s p = sym (append-nil (cells_for M (d - t) id))
place_normal M id d t (e ∷ es) h s p =
    let a : t + (e.at - t) ≡ e.at = omega (arith, s.0) in
    place_cells_lem M id d t t e.id (e.at - t) [] (normal M e.at es) p.0
    ∙ ap (λ (x : ℕ). place_by M id d t x e.id [] (cells_for M (e.at - t) e.id) (normal M e.at es)) a
    ∙ go (leb e.at d) refl (place_normal M id d e.at es)
  where
    go : (b : Bool) → leb e.at d ≡ b
        → (e.at ≤ d → Sorted e.at es → Proper es → place_from M id d e.at e.at [] (normal M e.at es) ≡ normal M e.at (with_event (event id d) es))
        → pick b (cells_for M (e.at - t) e.id ++ place_from M id d e.at e.at [] (normal M e.at es)) (cells_for M (d - t) id ++ (cells_for M (e.at - d) e.id ++ normal M e.at es))
        ≡ normal M t (pick b (e ∷ with_event (event id d) es) (event id d ∷ e ∷ es))
    go true q r = rw (r (leb-true e.at d q) s.1 p.1)
    go false q r = refl

-- ONE EVENT LESS

pub remove_chain : (M k id u t nid r : ℕ) (held cs : List Cell) → eqb nid filler ≡ false
    → remove_from M id u t held (chain M k nid r ++ cs)
    ≡ pick (eqb nid id) (regrouped M (t + (r + k * M)) u cs) (held ++ (chain M k nid r ++ remove_from M id (t + (r + k * M)) (t + (r + k * M)) [] cs))
remove_chain M zero id u t nid r held cs n =
    let e : t + (r + zero * M) ≡ t + r = omega (arith, zero-mul M) in
    rw (n, e)
remove_chain M (suc k) id u t nid r held cs n =
    let e : t + r + (M + k * M) ≡ t + (r + suc k * M) = omega (arith, suc-mul k M) in
    remove_chain M k id u (t + r) nid M (held ++ (cell filler r ∷ [])) cs n ∙ rw (e, append_assoc)

pub remove_cells_lem : (M id u t nid g : ℕ) (held cs : List Cell) → eqb nid filler ≡ false
    → remove_from M id u t held (cells_for M g nid ++ cs)
    ≡ pick (eqb nid id) (regrouped M (t + g) u cs) (held ++ (cells_for M g nid ++ remove_from M id (t + g) (t + g) [] cs))
unfolding cells_for
remove_cells_lem M id u t nid g held cs n =
    let k = (g - 1) / M in
    remove_chain M k id u t nid (g - k * M) held cs n ∙ rw (whole M g)

pub remove_normal : (M id t : ℕ) (es : List Event) → Sorted t es → Proper es → remove_from M id t t [] (normal M t es) ≡ normal M t (without_event id es)
remove_normal M id t [] s p = refl
remove_normal M id t (e ∷ es) s p =
    let a : t + (e.at - t) ≡ e.at = omega (arith, s.0) in
    remove_cells_lem M id t t e.id (e.at - t) [] (normal M e.at es) p.0 ∙ rw a (go (eqb e.id id) (remove_normal M id e.at es s.1 p.1))
  where
    go : (b : Bool) → remove_from M id e.at e.at [] (normal M e.at es) ≡ normal M e.at (without_event id es)
        → pick b (regrouped M e.at t (normal M e.at es)) (cells_for M (e.at - t) e.id ++ remove_from M id e.at e.at [] (normal M e.at es))
        ≡ normal M t (pick b es (e ∷ without_event id es))
    go true r = regrouped_normal M e.at t es s.1 p.1
    go false r = rw r

-- OF A SOUND QUEUE

module _ (M D : ℕ) (q : Queue) (s : Sound M D q) where
  pub place_sound : (id d : ℕ) → place_cells M id d (cells_of q) ≡ normal M 0 (with_event (event id d) (events_of q))
  place_sound id d = ap (place_cells M id d) (sound_cells M D q s) ∙ place_normal M id d 0 (events_of q) (omega arith) (sorted_events 0 (cells_of q)) (proper_events 0 (cells_of q))

  pub remove_sound : (id : ℕ) → remove_cells M id (cells_of q) ≡ normal M 0 (without_event id (events_of q))
  remove_sound id = ap (remove_cells M id) (sound_cells M D q s) ∙ remove_normal M id 0 (events_of q) (sorted_events 0 (cells_of q)) (proper_events 0 (cells_of q))

  -- when an event is taken out, no more cells are left
  pub remove_fewer : (id : ℕ) → 1 ≤ M → length (remove_cells M id (cells_of q)) ≤ q.len
  remove_fewer id m =
      let h = without_fewer M 0 id (events_of q) m (sorted_events 0 (cells_of q)) in
      rw (remove_sound id) (omega (arith, made_len q (normal M 0 (events_of q)) s.form))

  -- and with one more there are no fewer
  pub place_more : (id d : ℕ) → 1 ≤ M → q.len ≤ length (place_cells M id d (cells_of q))
  place_more id d m =
      let h = with_more M 0 (event id d) (events_of q) m (omega arith) (sorted_events 0 (cells_of q)) in
      rw (place_sound id d) (omega (arith, made_len q (normal M 0 (events_of q)) s.form))

  -- putting an event in with no test but for room is the last test and the outcome of the call
  pub place_step_lem : (id d : ℕ) → 1 ≤ M → place_step M q id d
      ≡ changed (first_of (check no_room (overfull M (with_event (event id d) (events_of q))) ∷ [])) q (formed M (with_event (event id d) (events_of q)))
  unfolding place_step queue_of
  place_step_lem id d m = rw (le-ltb cell_count q.len s.short) (go (place_more id d m))
    where
      row : List Cell
      row = place_cells M id d (cells_of q)

      go : q.len ≤ length row
          → changed (first_of (check no_room (ltb cell_count (length row)) ∷ [])) q (record { cells = row ++ drop (length row) q.cells; len = length row })
          ≡ changed (first_of (check no_room (overfull M (with_event (event id d) (events_of q))) ∷ [])) q (formed M (with_event (event id d) (events_of q)))
      go h =
          let l : length (normal M 0 (events_of q)) ≤ length row = omega (arith, made_len q (normal M 0 (events_of q)) s.form) in
          rw (made_past q (normal M 0 (events_of q)) s.form (length row) l, place_sound id d)
