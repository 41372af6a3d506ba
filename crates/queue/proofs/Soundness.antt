-- A queue passes the test `soundb` exactly where it is sound in the words of specs/Meaning.antt: the cells of one event, in those words, are `cells_for` its
-- distance, since a first gap of 0 before others would leave room for one cell fewer. Over any largest gap M, 1 or more, and any longest distance D. Assumes
-- nothing. And that no two sound queues have the same events.
use mathlib.Core.Path.{◌≡◌, refl, sym, ap, subst, ◌∙◌}
use mathlib.Core.Bool.{Bool, true, false, not}
use mathlib.Core.Logic.{◌↔◌, ◌≢◌}
use mathlib.Core.List.{List, [], ◌∷◌, ◌++◌, flatten, append-nil, nil≢cons, cons≢nil, tail-eq_of_cons-eq}
use Prim.Native.Nat.{ℕ, zero, suc, ◌+◌, ◌-◌, ◌*◌, ◌/◌, ◌≤◌, ◌<◌}
use native.Mathlib.Omega.{arith}
use native.Mathlib.Nat.{zero-mul, one-mul, lt-div-mul-add, div-lt_iff_lt-mul, mul-le-mul_right}
use lib.Dec.{leb, eqb}
use lib.ListN.{length, get_or, take, drop, replicate, length-drop, length-replicate, get_or-replicate, take-append-drop}
use lib.Seq.{ext_get_or, get_or-drop}
use borrow.Author.Tests.{ne_eqb, le-leb, leb-true, leb-false, eqb-true, eqb-false, not-true}
use Rattle.small.specs.Small.{pick, padded}
use Rattle.small.proofs.Tests.{both_left, both_right, neither_left, neither_right, contrary}
use Rattle.queue.specs.Limits.{cell_count, filler}
use Rattle.queue.specs.Row.{Event, event, cell, cells_of, queue_of, events_of, events_from, chain, cells_for, normal}
use Rattle.queue.specs.Sound.{sameb, hasb, distinctb, nearb, soundb}
use Rattle.queue.specs.Meaning.{OneEvent, NormalForm, SoundQueue}
use Rattle.queue.specs.declared.Cell.{Cell}
use Rattle.queue.specs.declared.Queue.{Queue}
use Rattle.queue.proofs.Cells.{cells_length, made_len, made_past}
use Rattle.queue.proofs.Normal.{Proper, proper_events, chain_of_lem, one_cell, chain_length, cells_count, events_chain, events_cells}
use Rattle.queue.proofs.SoundLaws.{Sound, queue_self, sound_is, sound_cells, sound_full}

-- THE CELLS OF ONE EVENT

chain_last : (M k id r : ℕ) → (get_or (chain M k id r) k (cell 0 0)).id ≡ id
chain_last M zero id r = refl
chain_last M (suc k) id r = chain_last M k id M

chain_first : (M k id r : ℕ) → (get_or (chain M k id r) 0 (cell 0 0)).gap ≡ r
chain_first M zero id r = refl
chain_first M (suc k) id r = refl

chain_others : (M k id r i : ℕ) → i < k → (get_or (chain M k id r) (suc i) (cell 0 0)).gap ≡ M
chain_others M zero id r i h = absurd (omega arith)
chain_others M (suc k) id r zero h = chain_first M k id M
chain_others M (suc k) id r (suc i) h = chain_others M k id M i (omega arith)

-- how few can hold g
few_hold : (M g n : ℕ) → 1 ≤ M → 1 ≤ n → g ≤ n * M → suc ((g - 1) / M) ≤ n
few_hold M g n m p h =
    let l : 1 * M ≤ n * M = mul-le-mul_right M p in
    let k : (g - 1) / M < n = (div-lt_iff_lt-mul {k = M} {x = g - 1} {y = n} m).1 (omega (arith, one-mul M)) in
    omega arith

-- those of the definition are such cells
cells_one : (M g id : ℕ) → 1 ≤ M → eqb id filler ≡ false → OneEvent M (cells_for M g id)
unfolding cells_for
cells_one M g id m n =
    record {
      id = id;
      g = g;
      one = ap (events_from 0) (sym (append-nil (cells_for M g id))) ∙ events_cells M 0 g id [] n ∙ ap (λ (x : ℕ). event id x ∷ []) z;
      fewest = λ x p h. let l : g ≤ x * M = omega (arith, h) in omega (arith, cells_count M g id, few_hold M g x m p l);
      last = rw e (chain_last M k id r);
      first = rw (chain_first M k id r) (omega (arith, lt-div-mul-add {a = g - 1} {b = M} m));
      others = other;
    }
  where
    k : ℕ
    k = (g - 1) / M

    r : ℕ
    r = g - k * M

    z : 0 + g ≡ g
    z = omega arith

    e : length (chain M k id r) - 1 ≡ k
    e = omega (arith, chain_length M k id r)

    other : (i : ℕ) → 1 ≤ i → i < length (chain M k id r) → (get_or (chain M k id r) i (cell 0 0)).gap ≡ M
    other zero p h = absurd (omega arith)
    other (suc i) p h = chain_others M k id r i (omega (arith, chain_length M k id r))

-- cells that hold no event are fillers, the last too
none_last : (t : ℕ) (c : Cell) (cs : List Cell) → events_from t (c ∷ cs) ≡ [] → eqb (get_or (c ∷ cs) (length cs) (cell 0 0)).id filler ≡ true
none_last t c [] e = go (eqb c.id filler) refl e
  where
    go : (b : Bool) → eqb c.id filler ≡ b → pick b [] (event c.id (t + c.gap) ∷ []) ++ [] ≡ [] → eqb c.id filler ≡ true
    go true q f = q
    go false q f = absurd (cons≢nil f)
none_last t c (d ∷ cs) e = go (eqb c.id filler) e (none_last (t + c.gap) d cs)
  where
    go : (b : Bool) → pick b [] (event c.id (t + c.gap) ∷ []) ++ events_from (t + c.gap) (d ∷ cs) ≡ []
        → (events_from (t + c.gap) (d ∷ cs) ≡ [] → eqb (get_or (d ∷ cs) (length cs) (cell 0 0)).id filler ≡ true)
        → eqb (get_or (d ∷ cs) (length cs) (cell 0 0)).id filler ≡ true
    go true f rec = rec f
    go false f rec = absurd (cons≢nil f)

-- cells that hold one event, the last, each but the first with gap M, are a chain
is_chain : (M t id g : ℕ) (c : Cell) (cs : List Cell) → eqb id filler ≡ false → events_from t (c ∷ cs) ≡ event id g ∷ []
    → (get_or (c ∷ cs) (length cs) (cell 0 0)).id ≡ id → ((i : ℕ) → i < length cs → (get_or cs i (cell 0 0)).gap ≡ M)
    → c ∷ cs ≡ chain M (length cs) id c.gap
is_chain M t id g c [] n e l o = λ j. record { id = l j; gap = c.gap } ∷ []
is_chain M t id g c (d ∷ cs) n e l o = go (eqb c.id filler) refl e (is_chain M (t + c.gap) id g d cs n)
  where
    go : (b : Bool) → eqb c.id filler ≡ b → pick b [] (event c.id (t + c.gap) ∷ []) ++ events_from (t + c.gap) (d ∷ cs) ≡ event id g ∷ []
        → (events_from (t + c.gap) (d ∷ cs) ≡ event id g ∷ [] → (get_or (d ∷ cs) (length cs) (cell 0 0)).id ≡ id
        → ((i : ℕ) → i < length cs → (get_or cs i (cell 0 0)).gap ≡ M) → d ∷ cs ≡ chain M (length cs) id d.gap)
        → c ∷ d ∷ cs ≡ cell filler c.gap ∷ chain M (length cs) id M
    go true q f rec =
        let r : d ∷ cs ≡ chain M (length cs) id d.gap = rec f l (λ i h. o (suc i) (omega (arith, h))) in
        let x : d ∷ cs ≡ chain M (length cs) id M = r ∙ ap (chain M (length cs) id) (o 0 (omega arith)) in
        let y : c.id ≡ filler = eqb-true c.id filler q in
        λ j. record { id = y j; gap = c.gap } ∷ x j
    go false q f rec =
        let x : events_from (t + c.gap) (d ∷ cs) ≡ [] = tail-eq_of_cons-eq f in
        let y : eqb id filler ≡ true = rw l at (none_last (t + c.gap) d cs x) in
        contrary y n

-- in the words, the event is no filler
one_event : (M : ℕ) (cs : List Cell) (o : OneEvent M cs) → eqb o.id filler ≡ false
one_event M cs o = let p : Proper (event o.id o.g ∷ []) = subst Proper o.one (proper_events 0 cs) in p.0

-- and the cells are those of the definition
one_cells : (M : ℕ) (cs : List Cell) → 1 ≤ M → (o : OneEvent M cs) → cs ≡ cells_for M o.g o.id
one_cells M [] m o = absurd (nil≢cons o.one)
one_cells M (c ∷ cs) m o = is ∙ go (leb 1 c.gap) refl
  where
    k : ℕ
    k = length cs

    n : eqb o.id filler ≡ false
    n = one_event M (c ∷ cs) o

    is : c ∷ cs ≡ chain M k o.id c.gap
    is = let e : suc k - 1 ≡ k = omega arith in
        is_chain M 0 o.id o.g c cs n o.one (rw e at o.last) (λ i h. o.others (suc i) (omega arith) (omega (arith, h)))

    sum : o.g ≡ k * M + c.gap
    sum =
        let e : event o.id o.g ∷ [] ≡ event o.id (0 + (c.gap + k * M)) ∷ [] =
        sym o.one ∙ ap (events_from 0) (is ∙ sym (append-nil (chain M k o.id c.gap))) ∙ events_chain M k 0 o.id c.gap [] n in
        let d : o.g ≡ 0 + (c.gap + k * M) = ap (λ (es : List Event). (get_or es 0 (event 0 0)).at) e in
        omega arith

    -- a first gap of 0 is that of the event itself
    alone : (j : ℕ) → k ≡ j → c.gap ≡ 0 → chain M j o.id c.gap ≡ cells_for M o.g o.id
    alone zero e r =
        let s : o.g ≡ 0 * M + c.gap = rw e at sum in
        let g : o.g ≡ c.gap = omega (arith, zero-mul M) in
        rw g (sym (one_cell M o.id c.gap m o.first))
    alone (suc j) e r =
        let l : suc k ≤ k = o.fewest k (omega arith) (omega (arith, sum)) in
        absurd (omega arith)

    go : (b : Bool) → leb 1 c.gap ≡ b → chain M k o.id c.gap ≡ cells_for M o.g o.id
    go true p = rw sum (sym (chain_of_lem M k o.id c.gap (leb-true 1 c.gap p) o.first))
    go false p = let r : c.gap < 1 = leb-false 1 c.gap p in alone k refl (omega arith)

-- "g up to 65,535: one cell, the event, gap g"
pub short_gap : (M : ℕ) (cs : List Cell) → 1 ≤ M → (o : OneEvent M cs) → o.g ≤ M → cs ≡ cell o.id o.g ∷ []
short_gap M cs m o h = one_cells M cs m o ∙ one_cell M o.id o.g m h

-- THE NORMAL FORM

-- the cells of each event, counted from t
abbrev groups_of : ℕ → ℕ → List Event → List (List Cell)
groups_of M t [] = []
groups_of M t (e ∷ es) = cells_for M (e.at - t) e.id ∷ groups_of M e.at es

groups_whole : (M t : ℕ) (es : List Event) → flatten (groups_of M t es) ≡ normal M t es
unfolding flatten
groups_whole M t [] = refl
groups_whole M t (e ∷ es) = ap {B = List Cell} (λ l. cells_for M (e.at - t) e.id ++ l) (groups_whole M e.at es)

groups_each : (M t : ℕ) (es : List Event) → 1 ≤ M → Proper es → (i : ℕ) → i < length (groups_of M t es) → OneEvent M (get_or (groups_of M t es) i [])
groups_each M t [] m p i h = absurd (omega arith)
groups_each M t (e ∷ es) m p zero h = cells_one M (e.at - t) e.id m p.0
groups_each M t (e ∷ es) m p (suc i) h = groups_each M e.at es m p.1 i (omega arith)

-- one event's cells after the other's are the normal form of their events
groups_normal : (M t : ℕ) (gs : List (List Cell)) → 1 ≤ M → ((i : ℕ) → i < length gs → OneEvent M (get_or gs i []))
    → flatten gs ≡ normal M t (events_from t (flatten gs))
unfolding flatten
groups_normal M t [] m o = refl
groups_normal M t (cs ∷ gs) m o =
    let a = o 0 (omega arith) in
    let g = a.g in
    let c : cs ≡ cells_for M g a.id = one_cells M cs m a in
    let n : eqb a.id filler ≡ false = one_event M cs a in
    let z : t + g - t ≡ g = omega arith in
    let r : flatten gs ≡ normal M (t + g) (events_from (t + g) (flatten gs)) = groups_normal M (t + g) gs m (λ i h. o (suc i) (omega (arith, h))) in
    let x : normal M t (events_from t (cells_for M g a.id ++ flatten gs)) ≡ cells_for M g a.id ++ flatten gs =
    rw (events_cells M t g a.id (flatten gs) n, z) (ap {B = List Cell} (λ l. cells_for M g a.id ++ l) (sym r)) in
    rw c (sym x)

pub normal_form : (M : ℕ) (cs : List Cell) → 1 ≤ M → (cs ≡ normal M 0 (events_from 0 cs)) ↔ NormalForm M cs
normal_form M cs m = (forth, back)
  where
    forth : cs ≡ normal M 0 (events_from 0 cs) → NormalForm M cs
    forth e =
        record {
          groups = groups_of M 0 (events_from 0 cs);
          whole = groups_whole M 0 (events_from 0 cs) ∙ sym e;
          each = groups_each M 0 (events_from 0 cs) m (proper_events 0 cs);
        }

    back : NormalForm M cs → cs ≡ normal M 0 (events_from 0 cs)
    back f = subst (λ (l : List Cell). l ≡ normal M 0 (events_from 0 l)) f.whole (groups_normal M 0 f.groups m f.each)

-- THE EVENTS

abbrev None : ℕ → List Event → Type 0
None id es = (i : ℕ) → i < length es → id ≢ (get_or es i (event 0 0)).id

none_from : (id : ℕ) (es : List Event) → hasb id es ≡ false → None id es
none_from id [] f i h q = absurd (omega arith)
none_from id (e ∷ es) f zero h q = eqb-false e.id id (neither_left (eqb e.id id) _ f) (sym q)
none_from id (e ∷ es) f (suc i) h q = none_from id es (neither_right (eqb e.id id) _ f) i (omega arith) q

none_to : (id : ℕ) (es : List Event) → None id es → hasb id es ≡ false
none_to id [] f = refl
none_to id (e ∷ es) f = rw (ne_eqb e.id id (λ q. f 0 (omega arith) (sym q))) (none_to id es (λ i h. f (suc i) (omega (arith, h))))

abbrev Apart : List Event → Type 0
Apart es = (i j : ℕ) → i < j → j < length es → (get_or es i (event 0 0)).id ≢ (get_or es j (event 0 0)).id

apart_from : (es : List Event) → distinctb es ≡ true → Apart es
apart_from [] d i j h l = absurd (omega arith)
apart_from (e ∷ es) d i zero h l = absurd (omega arith)
apart_from (e ∷ es) d zero (suc j) h l = none_from e.id es (not-true _ (both_left (not (hasb e.id es)) _ d)) j (omega arith)
apart_from (e ∷ es) d (suc i) (suc j) h l = apart_from es (both_right (not (hasb e.id es)) _ d) i j (omega arith) (omega arith)

apart_to : (es : List Event) → Apart es → distinctb es ≡ true
apart_to [] f = refl
apart_to (e ∷ es) f =
    rw (none_to e.id es (λ j h. f 0 (suc j) (omega arith) (omega (arith, h))))
    (apart_to es (λ i j h l. f (suc i) (suc j) (omega (arith, h)) (omega (arith, l))))

abbrev Near : ℕ → List Event → Type 0
Near D es = (i : ℕ) → i < length es → (get_or es i (event 0 0)).at ≤ D

near_from : (D : ℕ) (es : List Event) → nearb D es ≡ true → Near D es
near_from D [] f i h = absurd (omega arith)
near_from D (e ∷ es) f zero h = leb-true e.at D (both_left _ _ f)
near_from D (e ∷ es) f (suc i) h = near_from D es (both_right (leb e.at D) _ f) i (omega arith)

near_to : (D : ℕ) (es : List Event) → Near D es → nearb D es ≡ true
near_to D [] f = refl
near_to D (e ∷ es) f = rw (le-leb e.at D (f 0 (omega arith))) (near_to D es (λ i h. f (suc i) (omega (arith, h))))

-- "cells past the last are zero": the queue is that of its own cells
past_zero : (q : Queue) → length q.cells ≡ cell_count → q.len ≤ cell_count
    → ((i : ℕ) → q.len ≤ i → i < cell_count → get_or q.cells i (cell 0 0) ≡ cell 0 0) → q ≡ queue_of (cells_of q)
unfolding cells_of queue_of
past_zero q full few past = λ j. record { cells = whole j; len = sym n j }
  where
    cs : List Cell
    cs = take q.len q.cells

    rest : List Cell
    rest = drop q.len q.cells

    zeros : List Cell
    zeros = replicate (cell_count - length cs) (cell 0 0)

    n : length cs ≡ q.len
    n = cells_length q full few

    m : length rest ≡ cell_count - length cs
    m = length-drop q.len q.cells ∙ omega (arith, full, n)

    at : (i : ℕ) → i < length rest → get_or rest i (cell 0 0) ≡ get_or zeros i (cell 0 0)
    at i h =
        get_or-drop q.len q.cells i (cell 0 0)
        ∙ past (q.len + i) (omega arith) (omega (arith, m, n, few))
        ∙ sym (get_or-replicate (cell_count - length cs) i (cell 0 0) (cell 0 0) (omega (arith, m)))

    tail : rest ≡ zeros
    tail = ext_get_or (cell 0 0) rest zeros (m ∙ sym (length-replicate (cell_count - length cs) (cell 0 0))) at

    whole : q.cells ≡ padded (cell 0 0) cell_count cs
    whole = sym (take-append-drop q.len q.cells) ∙ ap {B = List Cell} (λ l. cs ++ l) tail

-- "A QUEUE ALONE IS SOUND IF IT IS IN NORMAL FORM, ITS EVENTS' IDS DIFFER, NO DISTANCE IS ABOVE 1,000,000, AND CELLS PAST THE LAST ARE ZERO"
pub queue_sound : (M D : ℕ) → 1 ≤ M → (q : Queue) → soundb M D q ≡ true ↔ SoundQueue M D q
unfolding soundb
queue_sound M D m q = (forth, back)
  where
    gone : Sound M D q → (i : ℕ) → q.len ≤ i → i < cell_count → get_or q.cells i (cell 0 0) ≡ cell 0 0
    gone s i l h =
        let es = normal M 0 (events_of q) in
        let d : drop i q.cells ≡ replicate (cell_count - i) (cell 0 0) = made_past q es s.form i (omega (arith, made_len q es s.form)) in
        let z : i + 0 ≡ i = omega arith in
        let a : get_or (drop i q.cells) 0 (cell 0 0) ≡ get_or q.cells i (cell 0 0) = get_or-drop i q.cells 0 (cell 0 0) ∙ rw z in
        let b : get_or (replicate (cell_count - i) (cell 0 0)) 0 (cell 0 0) ≡ cell 0 0 = get_or-replicate (cell_count - i) 0 (cell 0 0) (cell 0 0) (omega arith) in
        sym a ∙ ap (λ (cs : List Cell). get_or cs 0 (cell 0 0)) d ∙ b

    forth : soundb M D q ≡ true → SoundQueue M D q
    forth e =
        let s = sound_is M D q e in
        record {
          places = sound_full M D q s;
          few = s.short;
          normal = (normal_form M (cells_of q) m).0 (sound_cells M D q s);
          apart = apart_from (events_of q) s.distinct;
          near = near_from D (events_of q) s.near;
          past = gone s;
        }

    back : SoundQueue M D q → soundb M D q ≡ true
    back w =
        let c : cells_of q ≡ normal M 0 (events_of q) = (normal_form M (cells_of q) m).1 w.normal in
        let e : q ≡ queue_of (normal M 0 (events_of q)) = past_zero q w.places w.few w.past ∙ ap queue_of c in
        let f : sameb q (queue_of (normal M 0 (events_of q))) ≡ true = ap (sameb q) (sym e) ∙ queue_self q in
        rw (le-leb q.len cell_count w.few, f, apart_to (events_of q) w.apart, near_to D (events_of q) w.near)

-- ONLY ONE SOUND QUEUE HAS GIVEN EVENTS
pub sound_only : (M D : ℕ) (q p : Queue) → soundb M D q ≡ true → soundb M D p ≡ true → events_of q ≡ events_of p → q ≡ p
sound_only M D q p s t e = (sound_is M D q s).form ∙ ap (λ (es : List Event). queue_of (normal M 0 es)) e ∙ sym (sound_is M D p t).form
