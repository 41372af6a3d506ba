-- Budgets that are given up: what `lapsed` leaves of a list of entries, each with its server; and that an arrival leaves nothing
-- more to give up. Assumes nothing.
use mathlib.Core.Path.{◌≡◌, refl, sym, ap}
use mathlib.Core.Bool.{Bool, true, false, not}
use mathlib.Core.List.{List, [], ◌∷◌}
use Prim.Native.Nat.{ℕ, zero, suc, ◌+◌}
use native.Mathlib.Omega.{arith}
use lib.Dec.{eqb}
use lib.ListN.{length, get_or}
use borrow.Author.Tests.{ltb-true, lt-ltb}
use Rattle.small.specs.Small.{pick, both}
use Rattle.small.proofs.Tests.{both_left, both_right, either_true, contrary}
use Rattle.table.specs.Table.{zero_server}
use Rattle.table.specs.declared.Server.{Server}
use Rattle.state.specs.State.{load, zero_entry}
use Rattle.state.specs.Choice.{pendingb, some_pending}
use Rattle.state.specs.Polling.{pollsb, lapsed}
use Rattle.state.specs.Sound.{entryb, entriesb, spentb, all_spentb}
use Rattle.state.specs.declared.Load.{Load}
use Rattle.state.specs.declared.Entry.{Entry}
use Rattle.state.proofs.Lapsing.{lapsed_keeps, lapsed_sound, lapsed_spent}
use Rattle.scheduler.specs.Arrive.{fitsb, lost_after, load_after, with_arrival, with_loads}
use Rattle.scheduler.specs.Tick.{each_entry}

-- ALL ENTRIES

-- each place, also past the end, where both are zero
pub lapsed_at : (ss : List Server) (es : List Entry) (i : ℕ) → get_or (each_entry lapsed ss es) i zero_entry ≡ lapsed (get_or ss i zero_server) (get_or es i zero_entry)
unfolding lapsed
lapsed_at [] es i = refl
lapsed_at (s ∷ ss) [] i = sym (lapsed_keeps (get_or (s ∷ ss) i zero_server) zero_entry (λ (e : Entry). e) refl)
lapsed_at (s ∷ ss) (e ∷ es) zero = refl
lapsed_at (s ∷ ss) (e ∷ es) (suc i) = lapsed_at ss es i

pub lapsed_length : (ss : List Server) (es : List Entry) → length (each_entry lapsed ss es) ≡ length es
lapsed_length [] es = refl
lapsed_length (s ∷ ss) [] = refl
lapsed_length (s ∷ ss) (e ∷ es) = ap suc (lapsed_length ss es)

pub entries_lapsed : (ss : List Server) (es : List Entry) → entriesb ss es ≡ true → entriesb ss (each_entry lapsed ss es) ≡ true
entries_lapsed [] es h = refl
entries_lapsed (s ∷ ss) [] h = refl
entries_lapsed (s ∷ ss) (e ∷ es) h = rw (lapsed_sound s e (both_left _ _ h)) (entries_lapsed ss es (both_right (entryb s e) _ h))

pub all_spent_lem : (ss : List Server) (es : List Entry) → all_spentb ss (each_entry lapsed ss es) ≡ true
all_spent_lem [] es = refl
all_spent_lem (s ∷ ss) [] = refl
all_spent_lem (s ∷ ss) (e ∷ es) = rw (lapsed_spent s e) (all_spent_lem ss es)

-- both in one walk
pub each_twice : (f g : Server → Entry → Entry) (ss : List Server) (es : List Entry) → each_entry f ss (each_entry g ss es) ≡ each_entry (λ s e. f s (g s e)) ss es
each_twice f g [] es = refl
each_twice f g (s ∷ ss) [] = refl
each_twice f g (s ∷ ss) (e ∷ es) = ap (λ (x : List Entry). f s (g s e) ∷ x) (each_twice f g ss es)

-- AN ARRIVAL takes no work away

pending_after : (E : ℕ) (l : Load) → pendingb l ≡ true → pendingb (load_after E l) ≡ true
unfolding load_after
pending_after E l h = go (fitsb E l)
  where
    go : (b : Bool) → pendingb (pick b (load (l.pending.0 + E) l.lost) (load l.pending.0 (lost_after l.lost))) ≡ true
    go true = lt-ltb 0 (l.pending.0 + E) (omega (arith, ltb-true 0 l.pending.0 h))
    go false = h

pub pending_kept : (E j : ℕ) (ls : List Load) → some_pending ls ≡ true → some_pending (with_arrival E j ls) ≡ true
pending_kept E j [] h = h
pending_kept E zero (l ∷ ls) h = go (pendingb l) refl h
  where
    go : (b : Bool) → pendingb l ≡ b → pick b true (some_pending ls) ≡ true → pick (pendingb (load_after E l)) true (some_pending ls) ≡ true
    go true p k = rw (pending_after E l p)
    go false p k = rw k (either_true (pendingb (load_after E l)))
pending_kept E (suc j) (l ∷ ls) h = go (pendingb l) h (pending_kept E j ls)
  where
    go : (b : Bool) → pick b true (some_pending ls) ≡ true → (some_pending ls ≡ true → some_pending (with_arrival E j ls) ≡ true) → pick b true (some_pending (with_arrival E j ls)) ≡ true
    go true k r = refl
    go false k r = r k

-- so one without budget to give up has none to give up behind it
pub arrived_spent : (E j : ℕ) (s : Server) (e : Entry) → spentb s e ≡ true → spentb s (with_loads (with_arrival E j e.loads) e) ≡ true
arrived_spent E j s e h = go (pollsb s.kind) (some_pending e.loads) (some_pending (with_arrival E j e.loads)) refl refl (pending_kept E j e.loads) h
  where
    go : (k a b : Bool) → some_pending e.loads ≡ a → some_pending (with_arrival E j e.loads) ≡ b
        → (some_pending e.loads ≡ true → some_pending (with_arrival E j e.loads) ≡ true)
        → pick (both k (not a)) (eqb e.budget.0 0) true ≡ true → pick (both k (not b)) (eqb e.budget.0 0) true ≡ true
    go true true true p q r k = refl
    go true true false p q r k = contrary (r p) q
    go true false true p q r k = refl
    go true false false p q r k = k
    go false a b p q r k = refl
