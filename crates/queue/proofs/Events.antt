-- Laws of what the calls do to a list of events: what stays in order, proper, near and distinct, and how many cells it takes. Assumes nothing.
use mathlib.Core.Path.{◌≡◌, refl, sym, ap, ◌∙◌}
use mathlib.Core.Bool.{Bool, true, false, not}
use mathlib.Core.List.{List, [], ◌∷◌}
use Prim.Native.Nat.{ℕ, suc, ◌+◌, ◌-◌, ◌/◌, ◌≤◌, ◌<◌}
use native.Mathlib.Omega.{arith}
use lib.Dec.{leb, eqb}
use lib.ListN.{length, length-append}
use borrow.Author.Tests.{eq-eqb, ne_eqb, le-leb, leb-true, leb-false, eqb-true, eqb-false, not-true}
use Rattle.small.specs.Small.{pick}
use Rattle.small.proofs.Tests.{both_left, both_right, neither_left, neither_right, contrary}
use Rattle.queue.specs.Limits.{filler}
use Rattle.queue.specs.Row.{Event, event, cells_for, normal}
use Rattle.queue.specs.Sound.{hasb, distinctb, nearb}
use Rattle.queue.specs.Calls.{with_event, without_event, distance_of, dueb, earlier, due_id, without_due, later, farb}
use Rattle.queue.specs.Meaning.{Sorted}
use Rattle.queue.proofs.Normal.{Proper, sorted_from, cells_count, fillers_grow, joined_fewer}

-- no event has the id of a filler
pub no_filler : (es : List Event) → Proper es → hasb filler es ≡ false
no_filler [] p = refl
no_filler (e ∷ es) p = rw p.0 (no_filler es p.1)

-- ONE EVENT MORE
pub with_length : (x : Event) (es : List Event) → length (with_event x es) ≡ suc (length es)
with_length x [] = refl
with_length x (e ∷ es) = go (leb e.at x.at) (with_length x es)
  where
    go : (b : Bool) → length (with_event x es) ≡ suc (length es) → length (pick b (e ∷ with_event x es) (x ∷ e ∷ es)) ≡ suc (suc (length es))
    go true h = ap suc h
    go false h = refl

pub with_sorted : (t : ℕ) (x : Event) (es : List Event) → t ≤ x.at → Sorted t es → Sorted t (with_event x es)
with_sorted t x [] h s = (h, tt)
with_sorted t x (e ∷ es) h s = go (leb e.at x.at) refl (with_sorted e.at x es)
  where
    go : (b : Bool) → leb e.at x.at ≡ b → (e.at ≤ x.at → Sorted e.at es → Sorted e.at (with_event x es)) → Sorted t (pick b (e ∷ with_event x es) (x ∷ e ∷ es))
    go true q r = (s.0, r (leb-true e.at x.at q) s.1)
    go false q r = let p : x.at < e.at = leb-false e.at x.at q in (h, (omega arith, s.1))

pub with_proper : (x : Event) (es : List Event) → eqb x.id filler ≡ false → Proper es → Proper (with_event x es)
with_proper x [] h p = (h, tt)
with_proper x (e ∷ es) h p = go (leb e.at x.at) (with_proper x es h p.1)
  where
    go : (b : Bool) → Proper (with_event x es) → Proper (pick b (e ∷ with_event x es) (x ∷ e ∷ es))
    go true r = (p.0, r)
    go false r = (h, p)

pub with_near : (D : ℕ) (x : Event) (es : List Event) → leb x.at D ≡ true → nearb D es ≡ true → nearb D (with_event x es) ≡ true
with_near D x [] h p = rw h
with_near D x (e ∷ es) h p = go (leb e.at x.at) (with_near D x es h (both_right (leb e.at D) _ p))
  where
    go : (b : Bool) → nearb D (with_event x es) ≡ true → nearb D (pick b (e ∷ with_event x es) (x ∷ e ∷ es)) ≡ true
    go true r = rw (both_left (leb e.at D) _ p) r
    go false r = rw h p

pub with_has : (id : ℕ) (x : Event) (es : List Event) → eqb x.id id ≡ false → hasb id (with_event x es) ≡ hasb id es
with_has id x [] h = rw h
with_has id x (e ∷ es) h = go (leb e.at x.at) (with_has id x es h)
  where
    go : (b : Bool) → hasb id (with_event x es) ≡ hasb id es → hasb id (pick b (e ∷ with_event x es) (x ∷ e ∷ es)) ≡ pick (eqb e.id id) true (hasb id es)
    go true r = ap (pick (eqb e.id id) true) r
    go false r = rw h

pub with_distinct : (x : Event) (es : List Event) → hasb x.id es ≡ false → distinctb es ≡ true → distinctb (with_event x es) ≡ true
with_distinct x [] h d = refl
with_distinct x (e ∷ es) h d = go (leb e.at x.at) (eqb e.id x.id) refl h (with_distinct x es)
  where
    go : (b c : Bool) → eqb e.id x.id ≡ c → pick c true (hasb x.id es) ≡ false → (hasb x.id es ≡ false → distinctb es ≡ true → distinctb (with_event x es) ≡ true)
        → distinctb (pick b (e ∷ with_event x es) (x ∷ e ∷ es)) ≡ true
    go b true q f r = let z : ◌≡◌ {A = ℕ} 0 1 = cc in absurd (omega arith)
    go true false q f r =
        let n : eqb x.id e.id ≡ false = ne_eqb x.id e.id (λ p. eqb-false e.id x.id q (sym p)) in
        rw (with_has e.id x es n, both_left (not (hasb e.id es)) _ d) (r f (both_right (not (hasb e.id es)) _ d))
    go false false q f r = rw (q, f) d

pub with_distance : (id : ℕ) (x : Event) (es : List Event) → eqb x.id id ≡ false → distance_of id (with_event x es) ≡ distance_of id es
with_distance id x [] h = rw h
with_distance id x (e ∷ es) h = go (leb e.at x.at) (with_distance id x es h)
  where
    go : (b : Bool) → distance_of id (with_event x es) ≡ distance_of id es
        → distance_of id (pick b (e ∷ with_event x es) (x ∷ e ∷ es)) ≡ pick (eqb e.id id) e.at (distance_of id es)
    go true r = ap (pick (eqb e.id id) e.at) r
    go false r = rw h

-- the newcomer is there, at its own distance
pub with_new : (x : Event) (es : List Event) → hasb x.id es ≡ false
    → (hasb x.id (with_event x es) ≡ true) × (distance_of x.id (with_event x es) ≡ x.at)
with_new x [] h = let s : eqb x.id x.id ≡ true = eq-eqb x.id x.id refl in (rw s, rw s)
with_new x (e ∷ es) h = go (leb e.at x.at) (with_new x es (neither_right (eqb e.id x.id) _ h))
  where
    s : eqb x.id x.id ≡ true
    s = eq-eqb x.id x.id refl

    go : (b : Bool) → (hasb x.id (with_event x es) ≡ true) × (distance_of x.id (with_event x es) ≡ x.at)
        → (hasb x.id (pick b (e ∷ with_event x es) (x ∷ e ∷ es)) ≡ true) × (distance_of x.id (pick b (e ∷ with_event x es) (x ∷ e ∷ es)) ≡ x.at)
    go true r = let n : eqb e.id x.id ≡ false = neither_left (eqb e.id x.id) _ h in (rw n r.0, rw n r.1)
    go false r = (rw s, rw s)

-- ONE EVENT LESS

-- counted from an earlier time, no more cells are needed than the way there takes
pub first_fewer : (M s t : ℕ) (es : List Event) → 1 ≤ M → s ≤ t → Sorted t es → length (normal M s es) ≤ suc ((t - s - 1) / M) + length (normal M t es)
first_fewer M s t [] m h p = omega arith
first_fewer M s t (e ∷ es) m h p =
    let a : t - s + (e.at - t) - 1 ≡ e.at - s - 1 = omega (arith, p.0) in
    let f : (t - s + (e.at - t) - 1) / M ≤ suc ((t - s - 1) / M + (e.at - t - 1) / M) = joined_fewer M (t - s) (e.at - t) m in
    let g : (e.at - s - 1) / M ≤ suc ((t - s - 1) / M + (e.at - t - 1) / M) = rw a at f in
    rw (length-append, length-append, cells_count M (e.at - s) e.id, cells_count M (e.at - t) e.id) (omega arith)

-- an event more takes no fewer cells
pub with_more : (M t : ℕ) (x : Event) (es : List Event) → 1 ≤ M → t ≤ x.at → Sorted t es → length (normal M t es) ≤ length (normal M t (with_event x es))
with_more M t x [] m h s = omega arith
with_more M t x (e ∷ es) m h s = go (leb e.at x.at) refl (with_more M e.at x es m)
  where
    go : (b : Bool) → leb e.at x.at ≡ b → (e.at ≤ x.at → Sorted e.at es → length (normal M e.at es) ≤ length (normal M e.at (with_event x es)))
        → length (normal M t (e ∷ es)) ≤ length (normal M t (pick b (e ∷ with_event x es) (x ∷ e ∷ es)))
    go true q r = rw (length-append, length-append) (omega (arith, r (leb-true e.at x.at q) s.1))
    go false q r =
        let l : x.at < e.at = leb-false e.at x.at q in
        let f : length (normal M t (e ∷ es)) ≤ suc ((x.at - t - 1) / M) + length (normal M x.at (e ∷ es)) = first_fewer M t x.at (e ∷ es) m h (omega arith, s.1) in
        let g : length (normal M t (x ∷ e ∷ es)) ≡ suc ((x.at - t - 1) / M) + length (normal M x.at (e ∷ es)) = length-append (cells_for M (x.at - t) x.id) (normal M x.at (e ∷ es)) ∙ rw (cells_count M (x.at - t) x.id) in
        omega arith

pub without_sorted : (t id : ℕ) (es : List Event) → Sorted t es → Sorted t (without_event id es)
without_sorted t id [] s = tt
without_sorted t id (e ∷ es) s = go (eqb e.id id) (without_sorted e.at id es s.1)
  where
    go : (b : Bool) → Sorted e.at (without_event id es) → Sorted t (pick b es (e ∷ without_event id es))
    go true r = sorted_from t e.at es s.0 s.1
    go false r = (s.0, r)

pub without_fewer : (M t id : ℕ) (es : List Event) → 1 ≤ M → Sorted t es → length (normal M t (without_event id es)) ≤ length (normal M t es)
without_fewer M t id [] m s = omega arith
without_fewer M t id (e ∷ es) m s = go (eqb e.id id) (without_fewer M e.at id es m s.1)
  where
    go : (b : Bool) → length (normal M e.at (without_event id es)) ≤ length (normal M e.at es) → length (normal M t (pick b es (e ∷ without_event id es))) ≤ length (normal M t (e ∷ es))
    go true r = rw (length-append, cells_count M (e.at - t) e.id) (omega (arith, first_fewer M t e.at es m s.0 s.1))
    go false r = rw (length-append, length-append) (omega arith)

pub without_length : (id : ℕ) (es : List Event) → length (without_event id es) ≤ length es
without_length id [] = omega arith
without_length id (e ∷ es) = go (eqb e.id id) (without_length id es)
  where
    go : (b : Bool) → length (without_event id es) ≤ length es → length (pick b es (e ∷ without_event id es)) ≤ suc (length es)
    go true r = omega arith
    go false r = omega arith

-- what holds of the rest of a list too, and of an event before what is left where it held of the list, holds of what is left
without_keeps : (P : List Event → Type 0) (id : ℕ) → ((e : Event) (es : List Event) → P (e ∷ es) → P es)
    → ((e : Event) (es : List Event) → P (e ∷ es) → P (without_event id es) → P (e ∷ without_event id es)) → (es : List Event) → P es → P (without_event id es)
without_keeps P id rest before [] p = p
without_keeps P id rest before (e ∷ es) p = go (eqb e.id id) (without_keeps P id rest before es (rest e es p))
  where
    go : (b : Bool) → P (without_event id es) → P (pick b es (e ∷ without_event id es))
    go true r = rest e es p
    go false r = before e es p r

pub without_proper : (id : ℕ) (es : List Event) → Proper es → Proper (without_event id es)
without_proper id = without_keeps Proper id (λ e es p. p.1) (λ e es p r. (p.0, r))

pub without_near : (D id : ℕ) (es : List Event) → nearb D es ≡ true → nearb D (without_event id es) ≡ true
without_near D id =
    without_keeps (λ es. nearb D es ≡ true) id
    (λ e es h. both_right (leb e.at D) _ h)
    (λ e es h r. rw (both_left (leb e.at D) _ h) r)

-- the others are there as before
pub without_has : (id j : ℕ) (es : List Event) → eqb id j ≡ false → hasb j (without_event id es) ≡ hasb j es
without_has id j [] n = refl
without_has id j (e ∷ es) n = go (eqb e.id id) refl (without_has id j es n)
  where
    go : (b : Bool) → eqb e.id id ≡ b → hasb j (without_event id es) ≡ hasb j es → hasb j (pick b es (e ∷ without_event id es)) ≡ pick (eqb e.id j) true (hasb j es)
    go true q r = rw (eqb-true e.id id q, n)
    go false q r = ap (pick (eqb e.id j) true) r

pub without_absent : (id j : ℕ) (es : List Event) → hasb j es ≡ false → hasb j (without_event id es) ≡ false
without_absent id j =
    without_keeps (λ es. hasb j es ≡ false) id
    (λ e es h. neither_right (eqb e.id j) _ h)
    (λ e es h r. rw (neither_left (eqb e.id j) _ h) r)

pub without_distinct : (id : ℕ) (es : List Event) → distinctb es ≡ true → distinctb (without_event id es) ≡ true
without_distinct id =
    without_keeps (λ es. distinctb es ≡ true) id
    (λ e es d. both_right (not (hasb e.id es)) _ d)
    (λ e es d r. rw (without_absent id e.id es (not-true _ (both_left (not (hasb e.id es)) _ d))) r)

-- where ids differ, the event is gone
pub without_gone : (id : ℕ) (es : List Event) → distinctb es ≡ true → hasb id (without_event id es) ≡ false
without_gone id [] d = refl
without_gone id (e ∷ es) d = go (eqb e.id id) refl (without_gone id es (both_right (not (hasb e.id es)) _ d))
  where
    go : (b : Bool) → eqb e.id id ≡ b → hasb id (without_event id es) ≡ false → hasb id (pick b es (e ∷ without_event id es)) ≡ false
    go true q r = rw (← eqb-true e.id id q) (not-true _ (both_left (not (hasb e.id es)) _ d))
    go false q r = rw q r

pub without_distance : (id j : ℕ) (es : List Event) → eqb id j ≡ false → distance_of j (without_event id es) ≡ distance_of j es
without_distance id j [] n = refl
without_distance id j (e ∷ es) n = go (eqb e.id id) refl (without_distance id j es n)
  where
    go : (b : Bool) → eqb e.id id ≡ b → distance_of j (without_event id es) ≡ distance_of j es
        → distance_of j (pick b es (e ∷ without_event id es)) ≡ pick (eqb e.id j) e.at (distance_of j es)
    go true q r = rw (eqb-true e.id id q, n)
    go false q r = ap (pick (eqb e.id j) e.at) r

-- EACH 1 EARLIER

pub earlier_sorted : (s t : ℕ) (es : List Event) → s ≤ t - 1 → Sorted t es → Sorted s (earlier es)
earlier_sorted s t [] h p = tt
earlier_sorted s t (e ∷ es) h p = (omega (arith, p.0), earlier_sorted (e.at - 1) e.at es (omega arith) p.1)

pub earlier_proper : (es : List Event) → Proper es → Proper (earlier es)
earlier_proper [] p = tt
earlier_proper (e ∷ es) p = (p.0, earlier_proper es p.1)

pub earlier_near : (D : ℕ) (es : List Event) → nearb D es ≡ true → nearb D (earlier es) ≡ true
earlier_near D [] h = refl
earlier_near D (e ∷ es) h =
    let a : e.at ≤ D = leb-true e.at D (both_left _ _ h) in
    rw (le-leb (e.at - 1) D (omega arith)) (earlier_near D es (both_right (leb e.at D) _ h))

pub earlier_has : (id : ℕ) (es : List Event) → hasb id (earlier es) ≡ hasb id es
earlier_has id [] = refl
earlier_has id (e ∷ es) = ap (pick (eqb e.id id) true) (earlier_has id es)

pub earlier_distinct : (es : List Event) → distinctb (earlier es) ≡ distinctb es
earlier_distinct [] = refl
earlier_distinct (e ∷ es) = rw (earlier_has e.id es, earlier_distinct es)

-- events that all come 1 earlier, counted from 1 earlier, have the same cells
pub normal_earlier : (M t : ℕ) (es : List Event) → 1 ≤ t → Sorted t es → normal M (t - 1) (earlier es) ≡ normal M t es
normal_earlier M t [] h s = refl
normal_earlier M t (e ∷ es) h s =
    let d : e.at - 1 - (t - 1) ≡ e.at - t = omega arith in
    rw (d, normal_earlier M e.at es (omega (arith, s.0)) s.1)

-- an event that is not due is at least 1 away
pub not_due : (e : Event) (es : List Event) → dueb (e ∷ es) ≡ false → 1 ≤ e.at
not_due e es d = let n : e.at ≡ 0 → ⊥ = eqb-false e.at 0 (neither_left (eqb e.at 0) _ d) in omega arith

-- and no more are needed from now on
pub earlier_fewer : (M : ℕ) (es : List Event) → 1 ≤ M → Sorted 0 es → dueb es ≡ false → length (normal M 0 (earlier es)) ≤ length (normal M 0 es)
earlier_fewer M [] m s d = omega arith
earlier_fewer M (e ∷ es) m s d =
    let h : 1 ≤ e.at = not_due e es d in
    let f : (e.at - 1 - 0 - 1) / M ≤ (e.at - 0 - 1) / M = fillers_grow M (e.at - 1 - 0 - 1) (e.at - 0 - 1) m (omega arith) in
    rw (normal_earlier M e.at es h s.1, length-append, cells_count M (e.at - 1 - 0) e.id, length-append, cells_count M (e.at - 0) e.id) (omega arith)

pub earlier_distance : (j : ℕ) (es : List Event) → dueb es ≡ false → hasb j es ≡ true → distance_of j (earlier es) + 1 ≡ distance_of j es
earlier_distance j [] d h = contrary h refl
earlier_distance j (e ∷ es) d h = go (eqb e.id j) h (earlier_distance j es (neither_right (eqb e.at 0) _ d))
  where
    go : (b : Bool) → pick b true (hasb j es) ≡ true → (hasb j es ≡ true → distance_of j (earlier es) + 1 ≡ distance_of j es)
        → pick b (e.at - 1) (distance_of j (earlier es)) + 1 ≡ pick b e.at (distance_of j es)
    go true k r = omega (arith, not_due e es d)
    go false k r = r k

-- EACH 1 LATER

pub later_sorted : (t : ℕ) (es : List Event) → Sorted t es → Sorted (t + 1) (later es)
later_sorted t [] s = tt
later_sorted t (e ∷ es) s = (omega (arith, s.0), later_sorted e.at es s.1)

pub later_length : (es : List Event) → length (later es) ≡ length es
later_length [] = refl
later_length (e ∷ es) = ap suc (later_length es)

pub later_proper : (es : List Event) → Proper es → Proper (later es)
later_proper [] p = tt
later_proper (e ∷ es) p = (p.0, later_proper es p.1)

-- where none is at the longest distance
pub later_near : (D : ℕ) (es : List Event) → nearb D es ≡ true → farb D es ≡ false → nearb D (later es) ≡ true
later_near D [] h f = refl
later_near D (e ∷ es) h f =
    let a : e.at ≤ D = leb-true e.at D (both_left _ _ h) in
    let n : e.at ≡ D → ⊥ = eqb-false e.at D (neither_left (eqb e.at D) _ f) in
    rw (le-leb (e.at + 1) D (omega arith)) (later_near D es (both_right (leb e.at D) _ h) (neither_right (eqb e.at D) _ f))

pub later_has : (id : ℕ) (es : List Event) → hasb id (later es) ≡ hasb id es
later_has id [] = refl
later_has id (e ∷ es) = ap (pick (eqb e.id id) true) (later_has id es)

pub later_distinct : (es : List Event) → distinctb (later es) ≡ distinctb es
later_distinct [] = refl
later_distinct (e ∷ es) = rw (later_has e.id es, later_distinct es)

pub later_distance : (j : ℕ) (es : List Event) → hasb j es ≡ true → distance_of j (later es) ≡ distance_of j es + 1
later_distance j [] h = contrary h refl
later_distance j (e ∷ es) h = go (eqb e.id j) h (later_distance j es)
  where
    go : (b : Bool) → pick b true (hasb j es) ≡ true → (hasb j es ≡ true → distance_of j (later es) ≡ distance_of j es + 1)
        → pick b (e.at + 1) (distance_of j (later es)) ≡ pick b e.at (distance_of j es) + 1
    go true k r = refl
    go false k r = r k

-- THE FIRST THAT IS DUE

pub due_later : (t : ℕ) (es : List Event) → 1 ≤ t → Sorted t es → dueb es ≡ false
due_later t [] h s = refl
due_later t (e ∷ es) h s =
    let a : eqb e.at 0 ≡ false = ne_eqb e.at 0 (λ q. omega (arith, s.0)) in
    rw a (due_later e.at es (omega (arith, s.0)) s.1)

-- where an event is due it stands first
pub due_first : (es : List Event) → Sorted 0 es → dueb es ≡ true → es ≡ event (due_id es) 0 ∷ without_due es
due_first [] s d = contrary d refl
due_first (e ∷ es) s d = go (eqb e.at 0) refl d
  where
    go : (b : Bool) → eqb e.at 0 ≡ b → pick b true (dueb es) ≡ true → e ∷ es ≡ event (pick b e.id (due_id es)) 0 ∷ pick b es (e ∷ without_due es)
    go true p f = let z : e.at ≡ 0 = eqb-true e.at 0 p in λ i. (record { id = e.id; at = z i }) ∷ es
    go false p f =
        let n : e.at ≡ 0 → ⊥ = eqb-false e.at 0 p in
        contrary f (due_later e.at es (omega arith) s.1)
