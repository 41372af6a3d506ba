-- "as few cells as can hold": no row whose gaps are at most M holds its events in fewer cells than their normal form has. M is the largest gap. Assumes
-- nothing.
use mathlib.Core.Path.{◌≡◌, ap, ◌∙◌}
use mathlib.Core.Bool.{Bool, true, false}
use mathlib.Core.List.{List, [], ◌∷◌, ◌++◌}
use Prim.Native.Nat.{ℕ, suc, ◌+◌, ◌-◌, ◌/◌, ◌≤◌}
use native.Mathlib.Omega.{arith}
use native.Mathlib.Nat.{div-eq_of_lt, add-div_right}
use lib.Dec.{eqb}
use lib.ListN.{length, length-append}
use Rattle.small.specs.Small.{pick}
use Rattle.queue.specs.Meaning.{Fits}
use Rattle.queue.specs.Limits.{filler}
use Rattle.queue.specs.Row.{event, cells_of, events_of, events_from, normal}
use Rattle.queue.specs.Sound.{soundb}
use Rattle.queue.specs.declared.Cell.{Cell}
use Rattle.queue.specs.declared.Queue.{Queue}
use Rattle.queue.proofs.Cells.{made_len}
use Rattle.queue.proofs.Normal.{cells_count, fillers_grow}
use Rattle.queue.proofs.SoundLaws.{sound_is}

-- how many cells a way of x ticks needs
abbrev ceil : ℕ → ℕ → ℕ
ceil M x = (x + M - 1) / M

-- counted from an earlier s, the way from there to t comes in addition
fewest_from : (M s t : ℕ) (cs : List Cell) → 1 ≤ M → s ≤ t → Fits M cs → length (normal M s (events_from t cs)) ≤ ceil M (t - s) + length cs
fewest_from M s t [] m h f = omega arith
fewest_from M s t (c ∷ cs) m h f =
    go (eqb c.id filler) (fewest_from M s (t + c.gap) cs m (omega arith) f.1) (fewest_from M (t + c.gap) (t + c.gap) cs m (omega arith) f.1)
  where
    go : (b : Bool) → length (normal M s (events_from (t + c.gap) cs)) ≤ ceil M (t + c.gap - s) + length cs
        → length (normal M (t + c.gap) (events_from (t + c.gap) cs)) ≤ ceil M (t + c.gap - (t + c.gap)) + length cs
        → length (normal M s (pick b [] (event c.id (t + c.gap) ∷ []) ++ events_from (t + c.gap) cs)) ≤ ceil M (t - s) + suc (length cs)
    go true r u =
        let a : ceil M (t + c.gap - s) ≤ (t - s + M - 1 + M) / M = fillers_grow M (t + c.gap - s + M - 1) (t - s + M - 1 + M) m (omega (arith, f.0)) in
        let b : (t - s + M - 1 + M) / M ≡ ceil M (t - s) + 1 = add-div_right (t - s + M - 1) {k = M} m in
        omega arith
    go false r u =
        let a : (t + c.gap - s - 1) / M ≤ ceil M (t - s) = fillers_grow M (t + c.gap - s - 1) (t - s + M - 1) m (omega (arith, f.0)) in
        let z : ceil M (t + c.gap - (t + c.gap)) ≡ 0 = div-eq_of_lt {n = t + c.gap - (t + c.gap) + M - 1} {m = M} (omega arith) in
        rw (length-append, cells_count M (t + c.gap - s) c.id) (omega arith)

-- the normal form of a row's events has no more cells than the row
pub fewest : (M : ℕ) (cs : List Cell) → 1 ≤ M → Fits M cs → length (normal M 0 (events_from 0 cs)) ≤ length cs
fewest M cs m f =
    let z : ceil M (0 - 0) ≡ 0 = div-eq_of_lt {n = 0 - 0 + M - 1} {m = M} (omega arith) in
    omega (arith, fewest_from M 0 0 cs m (omega arith) f)

-- of two rows with the same events, one in normal form, that one has no more cells
pub fewest_cells : (M : ℕ) (cs ds : List Cell) → 1 ≤ M → cs ≡ normal M 0 (events_from 0 cs) → Fits M ds → events_from 0 cs ≡ events_from 0 ds
    → length cs ≤ length ds
fewest_cells M cs ds m n f e =
    let k : length cs ≡ length (normal M 0 (events_from 0 ds)) = ap length (n ∙ ap (normal M 0) e) in
    omega (arith, fewest M ds m f)

-- so a sound queue has no more cells in use than any queue with its events
pub sound_fewest : (M D : ℕ) (q p : Queue) → 1 ≤ M → soundb M D q ≡ true → Fits M (cells_of p) → events_of q ≡ events_of p
    → q.len ≤ length (cells_of p)
sound_fewest M D q p m s f e =
    let k : q.len ≡ length (normal M 0 (events_of p)) = made_len q (normal M 0 (events_of q)) (sound_is M D q s).form ∙ ap length (ap (normal M 0) e) in
    omega (arith, fewest M (cells_of p) m f)
