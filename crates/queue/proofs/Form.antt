-- The test of the normal form, cell by cell, is the definition: the cells are the normal form of their events. Over any M. Assumes nothing.
use mathlib.Core.Path.{◌≡◌, refl, sym, ap, ◌∙◌}
use mathlib.Core.Bool.{Bool, true, false}
use mathlib.Core.List.{List, [], ◌∷◌, ◌++◌}
use Prim.Native.Nat.{ℕ, zero, suc, ◌+◌, ◌-◌, ◌*◌, ◌/◌, ◌≤◌}
use native.Mathlib.Omega.{arith}
use native.Mathlib.Nat.{zero-mul, suc-mul}
use lib.Dec.{leb, eqb}
use lib.ListN.{replicate}
use borrow.Author.Tests.{eq-eqb, le-leb, leb-true, eqb-true, eqb-false}
use Rattle.small.specs.Small.{pick, both}
use Rattle.small.proofs.Tests.{both_left, both_right}
use Rattle.queue.specs.Limits.{filler}
use Rattle.queue.specs.Row.{Event, event, cell, events_from, chain, cells_for, normal}
use Rattle.queue.specs.Sound.{same_cells}
use Rattle.queue.specs.Moves.{normb}
use Rattle.queue.specs.declared.Cell.{Cell}
use Rattle.queue.proofs.Normal.{Proper, chain_of_lem, one_cell, split, proper_events}

-- the test that two rows are the same shows that they are
pub same_cells_lem : (l bs : List Cell) → same_cells l bs ≡ true → l ≡ bs
same_cells_lem [] [] e = refl
same_cells_lem [] (b ∷ bs) e = cc
same_cells_lem (a ∷ l) [] e = cc
same_cells_lem (a ∷ l) (b ∷ bs) e =
    let s : both (eqb a.id b.id) (eqb a.gap b.gap) ≡ true = both_left _ _ e in
    let i : a.id ≡ b.id = eqb-true a.id b.id (both_left _ _ s) in
    let g : a.gap ≡ b.gap = eqb-true a.gap b.gap (both_right (eqb a.id b.id) _ s) in
    let t : l ≡ bs = same_cells_lem l bs (both_right (both (eqb a.id b.id) (eqb a.gap b.gap)) _ e) in
    λ j. (record { id = i j; gap = g j }) ∷ t j

one_more : (M j : ℕ) (cs : List Cell) → replicate j (cell filler M) ++ (cell filler M ∷ cs) ≡ cell filler M ∷ (replicate j (cell filler M) ++ cs)
one_more M zero cs = refl
one_more M (suc j) cs = ap {B = List Cell} (λ l. cell filler M ∷ l) (one_more M j cs)

chain_fillers : (M j id : ℕ) (cs : List Cell) → chain M j id M ++ cs ≡ replicate j (cell filler M) ++ (cell id M ∷ cs)
chain_fillers M zero id cs = refl
chain_fillers M (suc j) id cs = ap {B = List Cell} (λ l. cell filler M ∷ l) (chain_fillers M j id cs)

cell_is : (c : Cell) (i g : ℕ) → c.id ≡ i → c.gap ≡ g → c ≡ cell i g
cell_is c i g p q = λ j. record { id = p j; gap = q j }

-- both claims at once: at the start of a gap; and behind a filler r and j fillers M
abbrev Claims : ℕ → List Cell → Type 0
Claims M cs =
    ((t : ℕ) → normb M false cs ≡ true → cs ≡ normal M t (events_from t cs))
    × ((t r j : ℕ) → 1 ≤ r → r ≤ M → normb M true cs ≡ true → cell filler r ∷ (replicate j (cell filler M) ++ cs) ≡ normal M t (events_from (t + (j * M + r)) cs))

abbrev Fresh : ℕ → List Cell → Type 0
Fresh M cs = (t : ℕ) → normb M false cs ≡ true → cs ≡ normal M t (events_from t cs)

abbrev Inside : ℕ → List Cell → Type 0
Inside M cs = (t r j : ℕ) → 1 ≤ r → r ≤ M → normb M true cs ≡ true → cell filler r ∷ (replicate j (cell filler M) ++ cs) ≡ normal M t (events_from (t + (j * M + r)) cs)

step_fresh : (M : ℕ) (c : Cell) (cs : List Cell) → 1 ≤ M → Claims M cs → Fresh M (c ∷ cs)
step_fresh M c cs m ih t h = go (eqb c.id filler) refl h
  where
    go : (b : Bool) → eqb c.id filler ≡ b → both (both (pick b (leb 1 c.gap) true) (leb c.gap M)) (normb M b cs) ≡ true
        → c ∷ cs ≡ normal M t (pick b [] (event c.id (t + c.gap) ∷ []) ++ events_from (t + c.gap) cs)
    go true q f =
        let g = both_left (both (leb 1 c.gap) (leb c.gap M)) (normb M true cs) f in
        let p : 1 ≤ c.gap = leb-true 1 c.gap (both_left (leb 1 c.gap) _ g) in
        let l : c.gap ≤ M = leb-true c.gap M (both_right (leb 1 c.gap) _ g) in
        let k : cell filler c.gap ∷ cs ≡ normal M t (events_from (t + (0 * M + c.gap)) cs) = ih.1 t c.gap 0 p l (both_right (both (leb 1 c.gap) (leb c.gap M)) (normb M true cs) f) in
        let z : t + (0 * M + c.gap) ≡ t + c.gap = omega (arith, zero-mul M) in
        let e : c ≡ cell filler c.gap = cell_is c filler c.gap (eqb-true c.id filler q) refl in
        ap {B = List Cell} (λ x. x ∷ cs) e ∙ (rw z at k)
    go false q f =
        let l : c.gap ≤ M = leb-true c.gap M (both_left (leb c.gap M) (normb M false cs) f) in
        let k : cs ≡ normal M (t + c.gap) (events_from (t + c.gap) cs) = ih.0 (t + c.gap) (both_right (leb c.gap M) (normb M false cs) f) in
        let z : t + c.gap - t ≡ c.gap = omega arith in
        rw (z, one_cell M c.id c.gap m l) (ap {B = List Cell} (λ l'. c ∷ l') k)

step_inside : (M : ℕ) (c : Cell) (cs : List Cell) → 1 ≤ M → Claims M cs → Inside M (c ∷ cs)
step_inside M c cs m ih t r j p l h = go (eqb c.id filler) refl h
  where
    go : (b : Bool) → eqb c.id filler ≡ b → both (eqb c.gap M) (normb M b cs) ≡ true
        → cell filler r ∷ (replicate j (cell filler M) ++ (c ∷ cs)) ≡ normal M t (pick b [] (event c.id (t + (j * M + r) + c.gap) ∷ []) ++ events_from (t + (j * M + r) + c.gap) cs)
    go true q f =
        let g : c.gap ≡ M = eqb-true c.gap M (both_left (eqb c.gap M) _ f) in
        let e : c ≡ cell filler M = cell_is c filler M (eqb-true c.id filler q) g in
        let k = ih.1 t r (suc j) p l (both_right (eqb c.gap M) _ f) in
        let z : t + (suc j * M + r) ≡ t + (j * M + r) + c.gap = omega (arith, suc-mul j M, g) in
        ap {B = List Cell} (λ x. cell filler r ∷ (replicate j (cell filler M) ++ (x ∷ cs))) e
        ∙ ap {B = List Cell} (λ x. cell filler r ∷ x) (one_more M j cs)
        ∙ (rw z at k)
    go false q f =
        let g : c.gap ≡ M = eqb-true c.gap M (both_left (eqb c.gap M) _ f) in
        let e : c ≡ cell c.id M = cell_is c c.id M refl g in
        let u = t + (j * M + r) + c.gap in
        let k : cs ≡ normal M u (events_from u cs) = ih.0 u (both_right (eqb c.gap M) _ f) in
        let z : u - t ≡ suc j * M + r = omega (arith, suc-mul j M, g) in
        rw (z, chain_of_lem M (suc j) c.id r p l)
        (ap {B = List Cell} (λ x. cell filler r ∷ (replicate j (cell filler M) ++ (x ∷ cs))) e
        ∙ ap {B = List Cell} (λ x. cell filler r ∷ x) (sym (chain_fillers M j c.id cs))
        ∙ ap {B = List Cell} (λ x. cell filler r ∷ (chain M j c.id M ++ x)) k)

claims : (M : ℕ) (cs : List Cell) → 1 ≤ M → Claims M cs
claims M [] m = (λ t h. refl, λ t r j p l h. let z : ◌≡◌ {A = ℕ} 0 1 = cc in absurd (omega arith))
claims M (c ∷ cs) m = (step_fresh M c cs m (claims M cs m), step_inside M c cs m (claims M cs m))

-- what passes the test is the normal form of its events_from
pub normb_is : (M : ℕ) (cs : List Cell) → 1 ≤ M → normb M false cs ≡ true → cs ≡ normal M 0 (events_from 0 cs)
normb_is M cs m h = (claims M cs m).0 0 h

-- and the normal form passes
normb_inside : (M k id : ℕ) (cs : List Cell) → eqb id filler ≡ false → normb M true (chain M k id M ++ cs) ≡ normb M false cs
normb_inside M zero id cs n = rw (eq-eqb M M refl, n)
normb_inside M (suc k) id cs n = rw (eq-eqb M M refl) (normb_inside M k id cs n)

normb_chain : (M k id r : ℕ) (cs : List Cell) → eqb id filler ≡ false → 1 ≤ r → r ≤ M → normb M false (chain M k id r ++ cs) ≡ normb M false cs
normb_chain M zero id r cs n p l = rw (n, le-leb r M l)
normb_chain M (suc k) id r cs n p l = rw (le-leb 1 r p, le-leb r M l) (normb_inside M k id cs n)

normb_cells : (M g id : ℕ) (cs : List Cell) → eqb id filler ≡ false → 1 ≤ M → normb M false (cells_for M g id ++ cs) ≡ normb M false cs
normb_cells M g id cs n m = go (eqb g 0) refl
  where
    go : (b : Bool) → eqb g 0 ≡ b → normb M false (cells_for M g id ++ cs) ≡ normb M false cs
    go true q =
        let z : g ≡ 0 = eqb-true g 0 q in
        rw (one_cell M id g m (omega arith), n, le-leb g M (omega arith))
    go false q =
        let h : 1 ≤ g = let x : g ≡ 0 → ⊥ = eqb-false g 0 q in omega arith in
        let w = split M g m h in
        let a : cells_for M g id ≡ chain M ((g - 1) / M) id (g - (g - 1) / M * M) = ap (λ (x : ℕ). cells_for M x id) w.2 ∙ chain_of_lem M ((g - 1) / M) id (g - (g - 1) / M * M) w.0 w.1 in
        rw a (normb_chain M ((g - 1) / M) id (g - (g - 1) / M * M) cs n w.0 w.1)

pub normb_normal : (M t : ℕ) (es : List Event) → 1 ≤ M → Proper es → normb M false (normal M t es) ≡ true
normb_normal M t [] m p = refl
normb_normal M t (e ∷ es) m p = normb_cells M (e.at - t) e.id (normal M e.at es) p.0 m ∙ normb_normal M e.at es m p.1

-- so the two tests are one
pub same_self : (cs : List Cell) → same_cells cs cs ≡ true
same_self [] = refl
same_self (c ∷ cs) = rw (eq-eqb c.id c.id refl, eq-eqb c.gap c.gap refl) (same_self cs)

pub normb_same : (M : ℕ) (cs : List Cell) → 1 ≤ M → normb M false cs ≡ same_cells cs (normal M 0 (events_from 0 cs))
normb_same M cs m = go (normb M false cs) (same_cells cs (normal M 0 (events_from 0 cs))) refl refl
  where
    go : (a b : Bool) → normb M false cs ≡ a → same_cells cs (normal M 0 (events_from 0 cs)) ≡ b → a ≡ b
    go true true p q = refl
    go false false p q = refl
    go true false p q =
        let e : cs ≡ normal M 0 (events_from 0 cs) = normb_is M cs m p in
        let s : same_cells cs (normal M 0 (events_from 0 cs)) ≡ true = ap (same_cells cs) (sym e) ∙ same_self cs in
        cc
    go false true p q =
        let e : cs ≡ normal M 0 (events_from 0 cs) = same_cells_lem cs (normal M 0 (events_from 0 cs)) q in
        let s : normb M false cs ≡ true = ap (normb M false) e ∙ normb_normal M 0 (events_from 0 cs) m (proper_events 0 cs) in
        cc
