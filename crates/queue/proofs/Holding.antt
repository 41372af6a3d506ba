-- Laws of `holds`: what is known of the cells passed, and that the flags say which ids are there. Over any reach. Assumes nothing.
use mathlib.Core.Path.{◌≡◌, refl, ap, sym, ◌∙◌}
use mathlib.Core.Bool.{Bool, true, false}
use mathlib.Core.List.{List, [], ◌∷◌, ◌++◌, append-nil}
use Prim.Native.Nat.{ℕ, zero, suc, ◌+◌, ◌≤◌, ◌<◌}
use native.Mathlib.Omega.{arith}
use lib.Dec.{leb, ltb, eqb}
use lib.ListN.{length, get_or, set, replicate, length-set, get_or-replicate}
use lib.Seq.{get_or-set_same, get_or-set_other}
use borrow.Author.Tests.{eqb-true, eqb-false}
use Rattle.small.specs.Small.{pick, both}
use Rattle.small.proofs.Tests.{both_true, either_false}
use Rattle.queue.specs.Limits.{filler}
use Rattle.queue.specs.Row.{Event, event, event_at, events_from}
use Rattle.queue.specs.Sound.{hasb}
use Rattle.queue.specs.Holds.{in_ticks, withinb, presentb}
use Rattle.queue.specs.Moves.{gaps_of, seenb}
use Rattle.queue.specs.declared.Cell.{Cell}
use Rattle.queue.specs.declared.Distance.{Distance}
use Rattle.queue.proofs.Scan.{id_count, has_append, has_here, gaps_append, events_append}

-- DISTANCES AND THEIR TICKS

pub ticks_length : (ds : List Distance) → length (in_ticks ds) ≡ length ds
ticks_length [] = refl
ticks_length (d ∷ ds) = ap suc (ticks_length ds)

pub ticks_at : (ds : List Distance) (i : ℕ) (z : Distance) → i < length ds → get_or (in_ticks ds) i 0 ≡ (get_or ds i z).0
ticks_at [] i z h = absurd (omega arith)
ticks_at (d ∷ ds) zero z h = refl
ticks_at (d ∷ ds) (suc i) z h = ticks_at ds i z (omega arith)

pub ticks_set : (ds : List Distance) (i : ℕ) (d : Distance) → in_ticks (set ds i d) ≡ set (in_ticks ds) i d.0
ticks_set [] i d = refl
ticks_set (x ∷ ds) zero d = refl
ticks_set (x ∷ ds) (suc i) d = ap {B = List ℕ} (λ l. x.0 ∷ l) (ticks_set ds i d)

pub within_append : (reach : List ℕ) (es fs : List Event) → withinb reach (es ++ fs) ≡ both (withinb reach es) (withinb reach fs)
within_append reach [] fs = refl
within_append reach (e ∷ es) fs = go (both (ltb 0 e.at) (leb e.at (get_or reach e.id 0))) (within_append reach es fs)
  where
    go : (b : Bool) → withinb reach (es ++ fs) ≡ both (withinb reach es) (withinb reach fs)
        → both b (withinb reach (es ++ fs)) ≡ both (both b (withinb reach es)) (withinb reach fs)
    go true h = h
    go false h = refl

-- the test of one cell
abbrev pub reachedb : List ℕ → ℕ → ℕ → Bool
reachedb reach id at = pick (eqb id filler) true (both (ltb 0 at) (leb at (get_or reach id 0)))

within_cell : (reach : List ℕ) (id at : ℕ) → withinb reach (event_at id at) ≡ reachedb reach id at
within_cell reach id at = go (eqb id filler)
  where
    go : (b : Bool) → withinb reach (pick b [] (event id at ∷ [])) ≡ pick b true (both (ltb 0 at) (leb at (get_or reach id 0)))
    go true = refl
    go false = both_true (both (ltb 0 at) (leb at (get_or reach id 0)))

-- a table whose flags below the filler's are the ids of events, with one cell more
flagged_more : (es : List Event) (seen : List Bool) (id at : ℕ) → id < length seen
    → ((k : ℕ) → k < filler → get_or seen k false ≡ hasb k es) → (k : ℕ) → k < filler → get_or (set seen id true) k false ≡ hasb k (es ++ event_at id at)
flagged_more es seen id at small m k h = go (eqb id k) (eqb id filler) refl refl
  where
    go : (u b : Bool) → eqb id k ≡ u → eqb id filler ≡ b → get_or (set seen id true) k false ≡ hasb k (es ++ pick b [] (event id at ∷ []))
    go true true q r =
        let a : id ≡ k = eqb-true id k q in
        let f : id ≡ filler = eqb-true id filler r in
        absurd (omega arith)
    go true false q r = rw (has_here k es (event id at) [] q, ← eqb-true id k q) (get_or-set_same seen id true false small)
    go false true q r = rw append-nil (get_or-set_other seen id k true false (λ e. eqb-false id k q (sym e)) ∙ m k h)
    go false false q r =
        rw (has_append k es (event id at ∷ []), q, either_false) (get_or-set_other seen id k true false (λ e. eqb-false id k q (sym e)) ∙ m k h)

-- what is known behind the cells `past`: the flags are the ids of their events, which are in reach, and `at` is the sum of their gaps
pub record Looked (reach : List ℕ) (past : List Cell) (seen : List Bool) (at : ℕ) : Type 0 where
  pub full : length seen ≡ id_count
  pub sum : at ≡ gaps_of past
  pub within : withinb reach (events_from 0 past) ≡ true
  pub flagged : (k : ℕ) → k < filler → get_or seen k false ≡ hasb k (events_from 0 past)

pub looked_none : (reach : List ℕ) → Looked reach [] (replicate id_count false) 0
looked_none reach = record { full = refl; sum = refl; within = refl; flagged = λ k h. get_or-replicate id_count k false false (omega arith) }

module _ (reach : List ℕ) (past : List Cell) (seen : List Bool) (at : ℕ) (s : Looked reach past seen at) (c : Cell) where
  within_more : (rest : List Cell)
      → withinb reach (events_from 0 (past ++ (c ∷ rest))) ≡ both (reachedb reach c.id (at + c.gap)) (withinb reach (events_from (at + c.gap) rest))
  within_more rest =
      let e : 0 + gaps_of past + c.gap ≡ at + c.gap = omega (arith, s.sum) in
      rw (events_append 0 past (c ∷ rest), within_append, s.within, within_append, e, within_cell)

  -- a cell that is not in reach
  pub looked_out : (rest : List Cell) → reachedb reach c.id (at + c.gap) ≡ false → withinb reach (events_from 0 (past ++ (c ∷ rest))) ≡ false
  looked_out rest h = within_more rest ∙ rw h

  -- and one that is
  pub looked_more : c.id < id_count → reachedb reach c.id (at + c.gap) ≡ true → Looked reach (past ++ (c ∷ [])) (set seen c.id true) (at + c.gap)
  looked_more small h =
      record {
        full = length-set seen c.id true ∙ s.full;
        sum = rw (gaps_append past (c ∷ [])) (omega (arith, s.sum));
        within = within_more [] ∙ rw h;
        flagged = rw (events_append 0 past (c ∷ []), append-nil) (flagged_more (events_from 0 past) seen c.id (0 + gaps_of past + c.gap) (omega (arith, s.full)) s.flagged);
      }

-- the flags of a reach say what is there
pub seen_present : (reach : List ℕ) (i : ℕ) (seen : List Bool) (es : List Event) → i + length reach ≤ filler
    → ((k : ℕ) → k < filler → get_or seen k false ≡ hasb k es) → seenb reach i seen ≡ presentb reach i es
seen_present [] i seen es h m = refl
seen_present (r ∷ reach) i seen es h m = rw (m i (omega arith), seen_present reach (suc i) seen es (omega arith) m)
