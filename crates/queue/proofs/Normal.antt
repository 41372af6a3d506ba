-- Laws of events and of their normal form, over any largest gap M. Assumes nothing.
use mathlib.Core.Path.{◌≡◌, refl, ap, ◌∙◌}
use mathlib.Core.Bool.{Bool, true, false}
use mathlib.Core.List.{List, [], ◌∷◌, ◌++◌}
use Prim.Native.Nat.{ℕ, zero, suc, ◌+◌, ◌-◌, ◌*◌, ◌/◌, ◌≤◌, ◌<◌}
use native.Mathlib.Omega.{arith}
use native.Mathlib.Nat.{div-eq_of_lt, div-mul-le_self, lt-div-mul-add, zero-mul, suc-mul, add-mul, div-lt_iff_lt-mul, le-div_iff_mul-le}
use lib.Dec.{eqb}
use lib.Arith.{digits_div}
use lib.ListN.{length, length-append}
use Rattle.small.specs.Small.{pick}
use Rattle.queue.specs.Meaning.{Sorted}
use Rattle.queue.specs.Limits.{filler}
use Rattle.queue.specs.Row.{Event, event, cell, events_from, chain, cells_for, normal}
use Rattle.queue.specs.declared.Cell.{Cell}

-- no event is a filler
abbrev pub Proper : List Event → Type 0
Proper [] = Unit
Proper (e ∷ es) = (eqb e.id filler ≡ false) × Proper es

pub sorted_from : (s t : ℕ) (es : List Event) → s ≤ t → Sorted t es → Sorted s es
sorted_from s t [] h p = tt
sorted_from s t (e ∷ es) h p = (omega (arith, p.0), p.1)

-- the events of cells do not fall
pub sorted_events : (t : ℕ) (cs : List Cell) → Sorted t (events_from t cs)
sorted_events t [] = tt
sorted_events t (c ∷ cs) = go (eqb c.id filler) (sorted_events (t + c.gap) cs)
  where
    go : (b : Bool) → Sorted (t + c.gap) (events_from (t + c.gap) cs) → Sorted t (pick b [] (event c.id (t + c.gap) ∷ []) ++ events_from (t + c.gap) cs)
    go true p = sorted_from t (t + c.gap) (events_from (t + c.gap) cs) (omega arith) p
    go false p = (omega arith, p)

-- and none of them is a filler
pub proper_events : (t : ℕ) (cs : List Cell) → Proper (events_from t cs)
proper_events t [] = tt
proper_events t (c ∷ cs) = go (eqb c.id filler) refl (proper_events (t + c.gap) cs)
  where
    go : (b : Bool) → eqb c.id filler ≡ b → Proper (events_from (t + c.gap) cs) → Proper (pick b [] (event c.id (t + c.gap) ∷ []) ++ events_from (t + c.gap) cs)
    go true q p = p
    go false q p = (q, p)

-- Division stands in these laws and in `joined_fewer` alone: a gap is k whole gaps and a rest of 1 to M
pub chain_of_lem : (M k id r : ℕ) → 1 ≤ r → r ≤ M → cells_for M (k * M + r) id ≡ chain M k id r
unfolding cells_for
chain_of_lem M k id r p h =
    let a : k * M + r - 1 ≡ k * M + (r - 1) = omega arith in
    let d : (k * M + r - 1) / M ≡ k = ap (λ (x : ℕ). x / M) a ∙ digits_div k {m = M} {r = r - 1} (omega arith) in
    let e : k * M + r - k * M ≡ r = omega arith in
    rw (d, e)

pub one_cell : (M id g : ℕ) → 1 ≤ M → g ≤ M → cells_for M g id ≡ cell id g ∷ []
unfolding cells_for
one_cell M id g p h =
    let d : (g - 1) / M ≡ 0 = div-eq_of_lt {n = g - 1} {m = M} (omega arith) in
    let e : g - 0 * M ≡ g = omega (arith, zero-mul M) in
    rw (d, e)

pub split : (M g : ℕ) → 1 ≤ M → 1 ≤ g → let k = (g - 1) / M in (1 ≤ g - k * M) × (g - k * M ≤ M) × (g ≡ k * M + (g - k * M))
split M g p h =
    let a : (g - 1) / M * M ≤ g - 1 = div-mul-le_self (g - 1) M in
    let b : g - 1 < (g - 1) / M * M + M = lt-div-mul-add {a = g - 1} {b = M} p in
    (omega arith, omega arith, omega arith)

-- how many cells a gap takes
pub chain_length : (M k id r : ℕ) → length (chain M k id r) ≡ suc k
chain_length M zero id r = refl
chain_length M (suc k) id r = ap suc (chain_length M k id M)

pub cells_count : (M g id : ℕ) → length (cells_for M g id) ≡ suc ((g - 1) / M)
unfolding cells_for
cells_count M g id = chain_length M ((g - 1) / M) id (g - (g - 1) / M * M)

-- a longer gap takes no fewer
pub fillers_grow : (M a b : ℕ) → 1 ≤ M → a ≤ b → a / M ≤ b / M
fillers_grow M a b m h = let l : a / M * M ≤ a = div-mul-le_self a M in (le-div_iff_mul-le {k = M} {x = a / M} {y = b} m).1 (omega arith)

-- two gaps together need no more cells than each by itself
pub joined_fewer : (M a b : ℕ) → 1 ≤ M → (a + b - 1) / M ≤ suc ((a - 1) / M + (b - 1) / M)
joined_fewer M a b m =
    let p = (a - 1) / M in
    let r = (b - 1) / M in
    let x : a - 1 < p * M + M = lt-div-mul-add {a = a - 1} {b = M} m in
    let y : b - 1 < r * M + M = lt-div-mul-add {a = b - 1} {b = M} m in
    let d : (suc (suc (p + r))) * M ≡ p * M + r * M + M + M = suc-mul (suc (p + r)) M ∙ ap (λ (k : ℕ). k + M) (suc-mul (p + r) M ∙ ap (λ (k : ℕ). k + M) (add-mul p r M)) in
    let h : a + b - 1 < (suc (suc (p + r))) * M = omega arith in
    let l : (a + b - 1) / M < suc (suc (p + r)) = (div-lt_iff_lt-mul {k = M} {x = a + b - 1} {y = suc (suc (p + r))} m).1 h in
    omega arith

-- each event has a cell
pub normal_many : (M t : ℕ) (es : List Event) → length es ≤ length (normal M t es)
normal_many M t [] = omega arith
normal_many M t (e ∷ es) =
    let h : length es ≤ length (normal M e.at es) = normal_many M e.at es in
    rw (length-append, cells_count M (e.at - t) e.id) (omega arith)

-- the events of the normal form are the events
pub events_chain : (M k t id r : ℕ) (cs : List Cell) → eqb id filler ≡ false → events_from t (chain M k id r ++ cs) ≡ event id (t + (r + k * M)) ∷ events_from (t + (r + k * M)) cs
events_chain M zero t id r cs n =
    let e : t + (r + zero * M) ≡ t + r = omega (arith, zero-mul M) in
    rw (n, e)
events_chain M (suc k) t id r cs n =
    let e : t + r + (M + k * M) ≡ t + (r + suc k * M) = omega (arith, suc-mul k M) in
    events_chain M k (t + r) id M cs n ∙ ap (λ (x : ℕ). event id x ∷ events_from x cs) e

pub events_cells : (M t g id : ℕ) (cs : List Cell) → eqb id filler ≡ false → events_from t (cells_for M g id ++ cs) ≡ event id (t + g) ∷ events_from (t + g) cs
unfolding cells_for
events_cells M t g id cs n =
    let k = (g - 1) / M in
    let h : k * M ≤ g - 1 = div-mul-le_self (g - 1) M in
    let e : t + (g - k * M + k * M) ≡ t + g = omega arith in
    events_chain M k t id (g - k * M) cs n ∙ ap (λ (x : ℕ). event id x ∷ events_from x cs) e

-- THE ROUND TRIP
pub round_trip : (M t : ℕ) (es : List Event) → Sorted t es → Proper es → events_from t (normal M t es) ≡ es
round_trip M t [] s p = refl
round_trip M t (e ∷ es) s p =
    let a : t + (e.at - t) ≡ e.at = omega (arith, s.0) in
    events_cells M t (e.at - t) e.id (normal M e.at es) p.0
    ∙ rw (a, round_trip M e.at es s.1 p.1)
