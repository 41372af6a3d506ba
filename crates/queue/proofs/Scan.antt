-- Laws of the check of a row in one pass: the table of ids, the sum of the gaps, the tail, and that they are soundness. Over any M and D. Assumes nothing.
use mathlib.Core.Path.{◌≡◌, refl, sym, ap, ◌∙◌}
use mathlib.Core.Bool.{Bool, true, false, not}
use mathlib.Core.List.{List, [], ◌∷◌, ◌++◌, append_assoc, append-nil}
use Prim.Native.Nat.{ℕ, zero, suc, ◌+◌, ◌-◌, ◌≤◌, ◌<◌}
use native.Mathlib.Omega.{arith}
use lib.Dec.{leb, eqb}
use lib.ListN.{length, get_or, take, drop, set, replicate, length-set, length-drop, get_or-replicate, take-append-drop}
use lib.Seq.{get_or-set_same, get_or-set_other}
use borrow.Author.Tests.{eq-eqb, ne_eqb, le-leb, lt-leb, leb-true, leb-false, eqb-true, eqb-false, not-true}
use Rattle.small.specs.Small.{pick, both, padded}
use Rattle.small.proofs.Tests.{both_left, both_right, both_false, both_swap, either_true, either_false, contrary}
use Rattle.queue.specs.Limits.{cell_count, filler}
use Rattle.queue.specs.Row.{Event, event, cell, cells_of, queue_of, event_at, events_of, events_from, normal}
use Rattle.queue.specs.Sound.{same_cells, sameb, hasb, distinctb, nearb, soundb}
use Rattle.queue.specs.Moves.{spacedb, normb, gaps_of, sum_of, rowb}
use Rattle.queue.specs.declared.Cell.{Cell}
use Rattle.queue.specs.declared.Queue.{Queue}
use Rattle.queue.proofs.Cells.{cells_length, made_cells}
use Rattle.queue.proofs.Normal.{Proper, proper_events}
use Rattle.queue.proofs.Form.{normb_is, normb_normal}
use Rattle.queue.proofs.SoundLaws.{same_queue}
use Rattle.queue.proofs.Events.{no_filler}

-- THE TAIL

-- every cell is zero
abbrev zerob : List Cell → Bool
zerob [] = true
zerob (c ∷ cs) = both (both (eqb c.id 0) (eqb c.gap 0)) (zerob cs)

-- so it is where ids and gaps add up to 0
zero_sum : (cs : List Cell) → zerob cs ≡ eqb (sum_of cs) 0
zero_sum [] = refl
zero_sum (c ∷ cs) = go (eqb c.id 0) (eqb c.gap 0) refl refl (zero_sum cs)
  where
    go : (u v : Bool) → eqb c.id 0 ≡ u → eqb c.gap 0 ≡ v → zerob cs ≡ eqb (sum_of cs) 0 → both (both u v) (zerob cs) ≡ eqb (c.id + c.gap + sum_of cs) 0
    go true true p q r =
        let d : c.id ≡ 0 = eqb-true c.id 0 p in
        let e : c.gap ≡ 0 = eqb-true c.gap 0 q in
        let f : c.id + c.gap + sum_of cs ≡ sum_of cs = omega arith in
        rw f r
    go false v p q r = let d : c.id ≡ 0 → ⊥ = eqb-false c.id 0 p in sym (ne_eqb (c.id + c.gap + sum_of cs) 0 (λ h. d (omega arith)))
    go true false p q r = let d : c.gap ≡ 0 → ⊥ = eqb-false c.gap 0 q in sym (ne_eqb (c.id + c.gap + sum_of cs) 0 (λ h. d (omega arith)))

pub sum_append : (cs ds : List Cell) → sum_of (cs ++ ds) ≡ sum_of cs + sum_of ds
sum_append [] ds = omega arith
sum_append (c ∷ cs) ds = rw (sum_append cs ds) (omega arith)

same_sum : (a b : ℕ) → eqb b 0 ≡ eqb (a + b) a
same_sum a b = go (eqb b 0) refl
  where
    go : (u : Bool) → eqb b 0 ≡ u → u ≡ eqb (a + b) a
    go true p = let d : b ≡ 0 = eqb-true b 0 p in sym (eq-eqb (a + b) a (omega arith))
    go false p = let d : b ≡ 0 → ⊥ = eqb-false b 0 p in sym (ne_eqb (a + b) a (λ h. d (omega arith)))

-- the cells past some are zero where they add nothing to the sum
zero_tail : (n : ℕ) (cs : List Cell) → zerob (drop n cs) ≡ eqb (sum_of cs) (sum_of (take n cs))
zero_tail n cs =
    let e : sum_of (take n cs) + sum_of (drop n cs) ≡ sum_of cs = sym (sum_append (take n cs) (drop n cs)) ∙ ap sum_of (take-append-drop n cs) in
    zero_sum (drop n cs) ∙ same_sum (sum_of (take n cs)) (sum_of (drop n cs)) ∙ rw e

-- THE IDS

pub has_append : (id : ℕ) (es fs : List Event) → hasb id (es ++ fs) ≡ pick (hasb id es) true (hasb id fs)
has_append id [] fs = refl
has_append id (e ∷ es) fs = go (eqb e.id id) (has_append id es fs)
  where
    go : (b : Bool) → hasb id (es ++ fs) ≡ pick (hasb id es) true (hasb id fs) → pick b true (hasb id (es ++ fs)) ≡ pick (pick b true (hasb id es)) true (hasb id fs)
    go true h = refl
    go false h = h

-- an event is among those that it stands in
pub has_here : (id : ℕ) (es : List Event) (x : Event) (fs : List Event) → eqb x.id id ≡ true → hasb id (es ++ (x ∷ fs)) ≡ true
has_here id [] x fs h = rw h
has_here id (e ∷ es) x fs h = go (eqb e.id id) (has_here id es x fs h)
  where
    go : (b : Bool) → hasb id (es ++ (x ∷ fs)) ≡ true → pick b true (hasb id (es ++ (x ∷ fs))) ≡ true
    go true r = refl
    go false r = r

-- one more event leaves events distinct where its id is not among theirs
pub distinct_more : (es : List Event) (x : Event) → distinctb es ≡ true → hasb x.id es ≡ false → distinctb (es ++ (x ∷ [])) ≡ true
distinct_more [] x d h = refl
distinct_more (e ∷ es) x d h = go (eqb e.id x.id) refl h (distinct_more es x (both_right (not (hasb e.id es)) _ d))
  where
    go : (b : Bool) → eqb e.id x.id ≡ b → pick b true (hasb x.id es) ≡ false → (hasb x.id es ≡ false → distinctb (es ++ (x ∷ [])) ≡ true)
        → distinctb (e ∷ es ++ (x ∷ [])) ≡ true
    go true q f r = contrary refl f
    go false q f r =
        let n : eqb x.id e.id ≡ false = ne_eqb x.id e.id (λ p. eqb-false e.id x.id q (sym p)) in
        rw (has_append e.id es (x ∷ []), not-true (hasb e.id es) (both_left _ _ d), n) (r f)

-- and does not where it is
pub distinct_twice : (es : List Event) (x : Event) (fs : List Event) → hasb x.id es ≡ true → distinctb (es ++ (x ∷ fs)) ≡ false
distinct_twice [] x fs h = contrary h refl
distinct_twice (e ∷ es) x fs h = go (eqb e.id x.id) refl h (distinct_twice es x fs)
  where
    go : (b : Bool) → eqb e.id x.id ≡ b → pick b true (hasb x.id es) ≡ true → (hasb x.id es ≡ true → distinctb (es ++ (x ∷ fs)) ≡ false)
        → distinctb (e ∷ es ++ (x ∷ fs)) ≡ false
    go true q f r = rw (has_here e.id es x fs (eq-eqb x.id e.id (sym (eqb-true e.id x.id q))))
    go false q f r = rw (r f) (both_false (not (hasb e.id (es ++ (x ∷ fs)))))

-- THE PASS

pub gaps_append : (cs ds : List Cell) → gaps_of (cs ++ ds) ≡ gaps_of cs + gaps_of ds
gaps_append [] ds = omega arith
gaps_append (c ∷ cs) ds = rw (gaps_append cs ds) (omega arith)

pub events_append : (t : ℕ) (cs ds : List Cell) → events_from t (cs ++ ds) ≡ events_from t cs ++ events_from (t + gaps_of cs) ds
events_append t [] ds = let e : t + 0 ≡ t = omega arith in rw e
events_append t (c ∷ cs) ds =
    let e : t + (c.gap + gaps_of cs) ≡ t + c.gap + gaps_of cs = omega arith in
    rw (events_append (t + c.gap) cs ds, e, append_assoc)

-- how many ids there are, the filler's included
abbrev pub id_count : ℕ
id_count = 256

-- a table whose marks are the ids of events, with one cell more; a filler leaves none
pub marked_more : (es : List Event) (seen : List Bool) (id at : ℕ) → Proper es → length seen ≡ id_count → id < id_count
    → ((k : ℕ) → k < id_count → get_or seen k false ≡ hasb k es)
    → (k : ℕ) → k < id_count → get_or (set seen id (not (eqb id filler))) k false ≡ hasb k (es ++ event_at id at)
marked_more es seen id at p full small m k h = rw (has_append k es (event_at id at)) (go (eqb k id) (eqb id filler) refl refl)
  where
    go : (u b : Bool) → eqb k id ≡ u → eqb id filler ≡ b → get_or (set seen id (not b)) k false ≡ pick (hasb k es) true (hasb k (pick b [] (event id at ∷ [])))
    go true true q r =
        let a : k ≡ id = eqb-true k id q in
        let f : hasb id es ≡ false = rw (eqb-true id filler r) (no_filler es p) in
        rw (a, f) (get_or-set_same seen id false false (omega arith))
    go true false q r =
        let a : k ≡ id = eqb-true k id q in
        rw (a, eq-eqb id id refl, either_true (hasb id es)) (get_or-set_same seen id true false (omega arith))
    go false true q r = get_or-set_other seen id k false false (eqb-false k id q) ∙ m k h ∙ sym (either_false (hasb k es))
    go false false q r =
        let n : eqb id k ≡ false = ne_eqb id k (λ e. eqb-false k id q (sym e)) in
        rw n (get_or-set_other seen id k true false (eqb-false k id q) ∙ m k h ∙ sym (either_false (hasb k es)))

-- what is known behind the cells `past`: the ids that are marked are those of their events, which are distinct, `at` is the sum of their gaps, and
-- with `ids` it is the sum of all
pub record Scanned (past : List Cell) (seen : List Bool) (at ids : ℕ) : Type 0 where
  pub full : length seen ≡ id_count
  pub marked : (k : ℕ) → k < id_count → get_or seen k false ≡ hasb k (events_from 0 past)
  pub distinct : distinctb (events_from 0 past) ≡ true
  pub sum : at ≡ gaps_of past
  pub all : at + ids ≡ sum_of past

pub scanned_none : Scanned [] (replicate id_count false) 0 0
scanned_none = record { full = refl; marked = λ k h. get_or-replicate id_count k false false h; distinct = refl; sum = refl; all = refl }

module _ (past : List Cell) (seen : List Bool) (at ids : ℕ) (s : Scanned past seen at ids) (c : Cell) (small : c.id < id_count) where
  -- an id that is marked already
  pub scanned_twice : (rest : List Cell) → get_or seen c.id false ≡ true → distinctb (events_from 0 (past ++ (c ∷ rest))) ≡ false
  scanned_twice rest h =
      let m : hasb c.id (events_from 0 past) ≡ true = sym (s.marked c.id small) ∙ h in
      rw (events_append 0 past (c ∷ rest)) (go (eqb c.id filler) refl m)
    where
      go : (b : Bool) → eqb c.id filler ≡ b → hasb c.id (events_from 0 past) ≡ true
          → distinctb (events_from 0 past ++ (pick b [] (event c.id (0 + gaps_of past + c.gap) ∷ []) ++ events_from (0 + gaps_of past + c.gap) rest)) ≡ false
      go true q m = contrary m (rw (eqb-true c.id filler q) (no_filler (events_from 0 past) (proper_events 0 past)))
      go false q m = distinct_twice (events_from 0 past) (event c.id (0 + gaps_of past + c.gap)) (events_from (0 + gaps_of past + c.gap) rest) m

  -- and one that is not
  pub scanned_more : get_or seen c.id false ≡ false → Scanned (past ++ (c ∷ [])) (set seen c.id (not (eqb c.id filler))) (at + c.gap) (ids + c.id)
  scanned_more h =
      record {
        full = length-set seen c.id (not (eqb c.id filler)) ∙ s.full;
        marked = rw (one, append-nil) (marked_more (events_from 0 past) seen c.id (0 + gaps_of past + c.gap) (proper_events 0 past) s.full small s.marked);
        distinct = rw (one, append-nil) (go (eqb c.id filler));
        sum = rw (gaps_append past (c ∷ [])) (omega (arith, s.sum));
        all = rw (sum_append past (c ∷ [])) (omega (arith, s.all));
      }
    where
      one : events_from 0 (past ++ (c ∷ [])) ≡ events_from 0 past ++ (event_at c.id (0 + gaps_of past + c.gap) ++ [])
      one = events_append 0 past (c ∷ [])

      go : (b : Bool) → distinctb (events_from 0 past ++ pick b [] (event c.id (0 + gaps_of past + c.gap) ∷ [])) ≡ true
      go true = rw append-nil s.distinct
      go false = distinct_more (events_from 0 past) (event c.id (0 + gaps_of past + c.gap)) s.distinct (sym (s.marked c.id small) ∙ h)

-- THE WHOLE

-- behind the last event of a row in normal form nothing stands: the sum of the gaps is the longest distance
pub near_end : (M D t : ℕ) (b : Bool) (cs : List Cell) → normb M b cs ≡ true → (b ≡ false → t ≤ D) → nearb D (events_from t cs) ≡ leb (t + gaps_of cs) D
near_end M D t b [] h l = let k : t ≤ D = l (not-true b h) in sym (le-leb (t + 0) D (omega arith))
near_end M D t b (c ∷ cs) h l =
    let e : t + (c.gap + gaps_of cs) ≡ t + c.gap + gaps_of cs = omega arith in
    rw e (go (eqb c.id filler) (leb (t + c.gap) D) refl (both_right (spacedb M b c) _ h) (λ b. near_end M D (t + c.gap) b cs))
  where
    go : (f g : Bool) → leb (t + c.gap) D ≡ g → normb M f cs ≡ true
        → ((b : Bool) → normb M b cs ≡ true → (b ≡ false → t + c.gap ≤ D) → nearb D (events_from (t + c.gap) cs) ≡ leb (t + c.gap + gaps_of cs) D)
        → nearb D (pick f [] (event c.id (t + c.gap) ∷ []) ++ events_from (t + c.gap) cs) ≡ leb (t + c.gap + gaps_of cs) D
    go true g p n r = r true n (λ z. contrary refl z)
    go false true p n r = rw p (r false n (λ z. leb-true (t + c.gap) D p))
    go false false p n r = let k : D < t + c.gap = leb-false (t + c.gap) D p in rw p (sym (lt-leb (t + c.gap + gaps_of cs) D (omega arith)))

same_append : (cs ds es : List Cell) → same_cells (cs ++ ds) (cs ++ es) ≡ same_cells ds es
same_append [] ds es = refl
same_append (c ∷ cs) ds es = rw (eq-eqb c.id c.id refl, eq-eqb c.gap c.gap refl) (same_append cs ds es)

same_zero : (n : ℕ) (cs : List Cell) → length cs ≡ n → same_cells cs (replicate n (cell 0 0)) ≡ zerob cs
same_zero zero [] h = refl
same_zero zero (c ∷ cs) h = absurd (omega arith)
same_zero (suc n) [] h = absurd (omega arith)
same_zero (suc n) (c ∷ cs) h = ap (both (both (eqb c.id 0) (eqb c.gap 0))) (same_zero n cs (omega arith))

-- the queue of its own cells has zero past the last
same_tail : (q : Queue) → length q.cells ≡ cell_count → q.len ≤ cell_count → sameb q (queue_of (cells_of q)) ≡ zerob (drop q.len q.cells)
unfolding cells_of sameb queue_of
same_tail q full fits =
    let rest = drop q.len q.cells in
    let n : length (cells_of q) ≡ q.len = cells_length q full fits in
    rw (eq-eqb q.len (length (cells_of q)) (sym n))
    (ap (λ (cs : List Cell). same_cells cs (padded (cell 0 0) cell_count (cells_of q))) (sym (take-append-drop q.len q.cells))
    ∙ same_append (cells_of q) rest (replicate (cell_count - length (cells_of q)) (cell 0 0))
    ∙ same_zero (cell_count - length (cells_of q)) rest (simp length-drop (omega arith)))

-- soundness is what the pass over the row and the two sums find
pub sound_scan : (M D : ℕ) (q : Queue) → 1 ≤ M → length q.cells ≡ cell_count → q.len ≤ cell_count
    → soundb M D q ≡ both (rowb M D (cells_of q)) (eqb (sum_of q.cells) (sum_of (cells_of q)))
unfolding soundb rowb cells_of
sound_scan M D q m full fits = rw (← zero_tail q.len q.cells, le-leb q.len cell_count fits) (go (normb M false (cells_of q)) (sameb q (queue_of (normal M 0 (events_of q)))) refl refl)
  where
    go : (a b : Bool) → normb M false (cells_of q) ≡ a → sameb q (queue_of (normal M 0 (events_of q))) ≡ b
        → both b (both (distinctb (events_of q)) (nearb D (events_of q)))
        ≡ both (both a (both (distinctb (events_of q)) (leb (gaps_of (cells_of q)) D))) (zerob (drop q.len q.cells))
    go true b h s =
        let e : b ≡ zerob (drop q.len q.cells) = sym s ∙ ap (λ (cs : List Cell). sameb q (queue_of cs)) (sym (normb_is M (cells_of q) m h)) ∙ same_tail q full fits in
        let z : 0 + gaps_of (cells_of q) ≡ gaps_of (cells_of q) = omega arith in
        rw (e, near_end M D 0 false (cells_of q) h (λ p. omega arith), z) (both_swap (zerob (drop q.len q.cells)) (both (distinctb (events_of q)) (leb (gaps_of (cells_of q)) D)))
    go false false h s = refl
    go false true h s =
        let e : cells_of q ≡ normal M 0 (events_of q) = made_cells q (normal M 0 (events_of q)) (same_queue q (queue_of (normal M 0 (events_of q))) s) in
        contrary (ap (normb M false) e ∙ normb_normal M 0 (events_of q) m (proper_events 0 (cells_of q))) h
