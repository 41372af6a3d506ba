-- What `holdsb` says of each id: its event is 1 to its reach away, and there is none where the reach is 0. Assumes nothing.
use mathlib.Core.Path.{◌≡◌, refl, sym, ap, ◌∙◌}
use mathlib.Core.Bool.{Bool, true, false, not}
use mathlib.Core.List.{List, [], ◌∷◌}
use mathlib.Core.Logic.{◌↔◌}
use Prim.Native.Nat.{ℕ, zero, suc, ◌+◌, ◌≤◌, ◌<◌}
use native.Mathlib.Omega.{arith}
use lib.Dec.{leb, ltb, eqb}
use lib.ListN.{length, get_or}
use borrow.Author.Tests.{ltb-true, leb-true, lt-ltb, le-leb, eq-eqb, eqb-true, eqb-false, not-true}
use Rattle.small.specs.Small.{pick, both}
use Rattle.small.proofs.Tests.{both_left, both_right, contrary}
use Rattle.queue.specs.Limits.{max_gap, longest}
use Rattle.queue.specs.Row.{Event, event, cells_of, events_of}
use Rattle.queue.specs.Sound.{hasb, distinctb, soundb}
use Rattle.queue.specs.Holds.{withinb, presentb, holdsb}
use Rattle.queue.specs.Calls.{without_event, distance_of, dueb, due_id, without_due}
use Rattle.queue.specs.declared.Queue.{Queue}
use Rattle.queue.proofs.SoundLaws.{sound_is}
use Rattle.queue.proofs.Normal.{sorted_events}
use Rattle.queue.proofs.Events.{without_has, without_distinct, without_gone, due_first}
use Rattle.queue.specs.Meaning.{there, away}
use Rattle.state.proofs.Stated.{held}

-- EACH EVENT IS 1 TO ITS REACH AWAY

abbrev Within : List ℕ → List Event → Type 0
Within reach es = (j : ℕ) → hasb j es ≡ true → (1 ≤ distance_of j es) × (distance_of j es ≤ get_or reach j 0)

within_is : (reach : List ℕ) (es : List Event) → withinb reach es ≡ true → Within reach es
within_is reach [] w j h = contrary h refl
within_is reach (e ∷ es) w j h = go (eqb e.id j) refl h (within_is reach es (both_right (both (ltb 0 e.at) (leb e.at (get_or reach e.id 0))) _ w) j)
  where
    go : (b : Bool) → eqb e.id j ≡ b → pick b true (hasb j es) ≡ true → (hasb j es ≡ true → (1 ≤ distance_of j es) × (distance_of j es ≤ get_or reach j 0))
        → (1 ≤ pick b e.at (distance_of j es)) × (pick b e.at (distance_of j es) ≤ get_or reach j 0)
    go true p k r =
        let a = both_left _ _ w in
        (ltb-true 0 e.at (both_left _ _ a), rw (← eqb-true e.id j p) (leb-true e.at _ (both_right (ltb 0 e.at) _ a)))
    go false p k r = r k

within_to : (reach : List ℕ) (es : List Event) → distinctb es ≡ true → Within reach es → withinb reach es ≡ true
within_to reach [] d w = refl
within_to reach (e ∷ es) d w =
    let s : eqb e.id e.id ≡ true = eq-eqb e.id e.id refl in
    let h : (1 ≤ e.at) × (e.at ≤ get_or reach e.id 0) = rw s at (w e.id (rw s)) in
    rw (lt-ltb 0 e.at h.0, le-leb e.at (get_or reach e.id 0) h.1) (within_to reach es (both_right (not (hasb e.id es)) _ d) rest)
  where
    rest : Within reach es
    rest j k = go (eqb e.id j) refl
      where
        go : (b : Bool) → eqb e.id j ≡ b → (1 ≤ distance_of j es) × (distance_of j es ≤ get_or reach j 0)
        go true p = contrary k (rw (← eqb-true e.id j p) (not-true _ (both_left (not (hasb e.id es)) _ d)))
        go false p = rw p at (w j (rw p k))

-- EACH REACH ABOVE 0 HAS ITS EVENT

present_is : (reach : List ℕ) (i : ℕ) (es : List Event) → presentb reach i es ≡ true → (k : ℕ) → 1 ≤ get_or reach k 0 → hasb (i + k) es ≡ true
present_is [] i es p k h = absurd (omega arith)
present_is (r ∷ reach) i es p zero h =
    let e : i + 0 ≡ i = omega arith in
    rw e (rw (lt-ltb 0 r h) at (both_left (pick (ltb 0 r) (hasb i es) true) _ p))
present_is (r ∷ reach) i es p (suc k) h =
    let e : i + suc k ≡ suc i + k = omega arith in
    rw e (present_is reach (suc i) es (both_right (pick (ltb 0 r) (hasb i es) true) _ p) k h)

present_to : (reach : List ℕ) (i : ℕ) (es : List Event) → ((k : ℕ) → 1 ≤ get_or reach k 0 → hasb (i + k) es ≡ true) → presentb reach i es ≡ true
present_to [] i es h = refl
present_to (r ∷ reach) i es h = rw (go (ltb 0 r) refl) (present_to reach (suc i) es rest)
  where
    go : (b : Bool) → ltb 0 r ≡ b → pick b (hasb i es) true ≡ true
    go true p = let e : i + 0 ≡ i = omega arith in rw e at (h 0 (ltb-true 0 r p))
    go false p = refl

    rest : (k : ℕ) → 1 ≤ get_or reach k 0 → hasb (suc i + k) es ≡ true
    rest k m = let e : suc i + k ≡ i + suc k = omega arith in rw e (h (suc k) m)

-- WHAT A QUEUE HOLDS

pub record HeldEach (reach : List ℕ) (q : Queue) : Type 0 where
  pub sound : soundb max_gap longest q ≡ true
  pub within : (j : ℕ) → there j q ≡ true → (1 ≤ away j q) × (away j q ≤ get_or reach j 0)
  pub present : (j : ℕ) → 1 ≤ get_or reach j 0 → there j q ≡ true

pub held_each : (reach : List ℕ) (q : Queue) → holdsb max_gap longest reach q ≡ true ↔ HeldEach reach q
held_each reach q = (
  λ h.
      let r = (held reach q).0 h in
      record {
        sound = r.sound;
        within = within_is reach (events_of q) r.within;
        present = λ j m. let e : 0 + j ≡ j = omega arith in rw e at (present_is reach 0 (events_of q) r.present j m);
      },
  λ h.
      (held reach q).1 record {
        sound = h.sound;
        within = within_to reach (events_of q) (sound_is max_gap longest q h.sound).distinct h.within;
        present = present_to reach 0 (events_of q) (λ j m. let e : 0 + j ≡ j = omega arith in rw e (h.present j m));
      },
)

-- HOW MANY EVENTS THERE ARE: no more than ids

without_one : (id : ℕ) (es : List Event) → length es ≤ suc (length (without_event id es))
without_one id [] = omega arith
without_one id (e ∷ es) = go (eqb e.id id) (without_one id es)
  where
    go : (b : Bool) → length es ≤ suc (length (without_event id es)) → suc (length es) ≤ suc (length (pick b es (e ∷ without_event id es)))
    go true r = omega arith
    go false r = omega arith

pub few_ids : (n : ℕ) (es : List Event) → distinctb es ≡ true → ((j : ℕ) → hasb j es ≡ true → j < n) → length es ≤ n
few_ids zero [] d h = omega arith
few_ids zero (e ∷ es) d h = absurd (omega (arith, h e.id (rw (eq-eqb e.id e.id refl))))
few_ids (suc n) es d h = omega (arith, without_one n es, few_ids n (without_event n es) (without_distinct n es d) less)
  where
    less : (j : ℕ) → hasb j (without_event n es) ≡ true → j < n
    less j k = go (eqb n j) refl
      where
        go : (b : Bool) → eqb n j ≡ b → j < n
        go true p = contrary (rw (← eqb-true n j p) at k) (without_gone n es d)
        go false p = let o : n ≡ j → ⊥ = eqb-false n j p in omega (arith, h j (sym (without_has n j es p) ∙ k))

module _ (reach : List ℕ) (q : Queue) (h : HeldEach reach q) where
  -- what is there has a reach
  pub held_reached : (j : ℕ) → there j q ≡ true → 1 ≤ get_or reach j 0
  held_reached j t = let w = h.within j t in omega arith

  pub held_few : (n : ℕ) → ((j : ℕ) → 1 ≤ get_or reach j 0 → j < n) → length (events_of q) ≤ n
  held_few n f =
      few_ids n (events_of q) (sound_is max_gap longest q h.sound).distinct (λ j k. f j (held_reached j k))

  -- and none is due
  pub held_rests : dueb (events_of q) ≡ false
  held_rests = go (dueb (events_of q)) refl
    where
      go : (b : Bool) → dueb (events_of q) ≡ b → dueb (events_of q) ≡ false
      go true p =
          let i = due_id (events_of q) in
          let e : events_of q ≡ event i 0 ∷ without_due (events_of q) = due_first (events_of q) (sorted_events 0 (cells_of q)) p in
          let s : eqb i i ≡ true = eq-eqb i i refl in
          let k : there i q ≡ true = ap (hasb i) e ∙ rw s in
          let d : away i q ≡ 0 = ap (distance_of i) e ∙ rw s in
          absurd (omega (arith, (h.within i k).0))
      go false p = p
