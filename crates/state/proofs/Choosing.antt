-- The first place that passes a test, as a number and as what `position` gives: the first task with pending work, and the highest server that is ready. And
-- who wants a tick, by the kind that a number is. Assumes nothing.
use mathlib.Core.Path.{◌≡◌, refl, sym, ap, ◌∙◌}
use mathlib.Core.Bool.{Bool, true, false, not, cond}
use mathlib.Core.List.{List, [], ◌∷◌}
use mathlib.Core.Logic.{◌↔◌}
use Prim.Native.Nat.compare
use Prim.Native.Nat.{ℕ, zero, suc, ◌+◌, ◌≤◌, ◌<◌}
use native.Mathlib.Omega.{arith}
use lib.Dec.{ltb, eqb}
use lib.ListN.{length, get_or}
use borrow.Author.Tests.{lt-ltb}
use Rattle.small.specs.Small.{pick, both}
use Rattle.small.proofs.Tests.{neither_left, neither_right}
use Rattle.table.specs.Kind.{idling_kind, deferrable_kind, polling_kind}
use Rattle.table.specs.Kinds.{known_kind}
use Rattle.table.specs.declared.Kind.{Kind}
use Rattle.table.specs.declared.Kind.TheVariants.{Idling, Deferrable, Polling}
use Rattle.table.specs.declared.Server.{Server}
use Rattle.state.specs.State.{zero_load}
use Rattle.std.specs.Prelude.{Option, Some, None, is_some}
use Rattle.std.specs.List.{position_or_len, zip}
use Rattle.table.specs.Limits.{entries}
use Rattle.state.specs.Choice.{place_in, pendingb, first_pending, some_pending, wantsb, readyb, chosen_from}
use Rattle.state.specs.declared.Load.{Load}
use Rattle.state.specs.declared.Entry.{Entry}

-- k is the first of n places that passes the test, or n where there is none
pub record FirstOf (p : ℕ → Bool) (n k : ℕ) : Type 0 where
  pub below : k ≤ n
  pub here : k < n → p k ≡ true
  pub above : (i : ℕ) → i < k → p i ≡ false

-- one place more, at the front
first_more : (p : ℕ → Bool) (n k : ℕ) (b : Bool) → p 0 ≡ b → FirstOf (λ (i : ℕ). p (suc i)) n k → FirstOf p (suc n) (pick b 0 (suc k))
first_more p n k true e f = record { below = omega arith; here = λ h. e; above = λ i h. absurd (omega arith) }
first_more p n k false e f = record { below = omega (arith, f.below); here = λ h. f.here (omega arith); above = above f.above }
  where
    above : ((i : ℕ) → i < k → p (suc i) ≡ false) → (i : ℕ) → i < suc k → p i ≡ false
    above r zero h = e
    above r (suc i) h = r i (omega arith)

-- THE FIRST TASK WITH PENDING WORK

-- d is what a place past the end would hold
pub first_pending_lem : (ls : List Load) (d : Load) → FirstOf (λ (j : ℕ). pendingb (get_or ls j d)) (length ls) (first_pending ls)
first_pending_lem [] d = record { below = omega arith; here = λ h. absurd (omega arith); above = λ i h. absurd (omega arith) }
first_pending_lem (l ∷ ls) d = first_more (λ (j : ℕ). pendingb (get_or (l ∷ ls) j d)) (length ls) (first_pending ls) (pendingb l) refl (first_pending_lem ls d)

-- work is pending in some task exactly when there is a first
pub some_first : (ls : List Load) → some_pending ls ≡ ltb (first_pending ls) (length ls)
some_first [] = refl
some_first (l ∷ ls) = go (pendingb l) (some_first ls)
  where
    go : (b : Bool) → some_pending ls ≡ ltb (first_pending ls) (length ls) → pick b true (some_pending ls) ≡ ltb (pick b 0 (suc (first_pending ls))) (suc (length ls))
    go true r = sym (lt-ltb 0 (suc (length ls)) (omega arith))
    go false r = rw compare.suc-suc r

-- and in none exactly when each has none
pub some_none : (ls : List Load) → some_pending ls ≡ false ↔ ((j : ℕ) → pendingb (get_or ls j zero_load) ≡ false)
some_none ls = (forth ls, back ls)
  where
    forth : (ls : List Load) → some_pending ls ≡ false → (j : ℕ) → pendingb (get_or ls j zero_load) ≡ false
    forth [] h j = refl
    forth (l ∷ ls) h zero = neither_left (pendingb l) (some_pending ls) h
    forth (l ∷ ls) h (suc j) = forth ls (neither_right (pendingb l) (some_pending ls) h) j

    back : (ls : List Load) → ((j : ℕ) → pendingb (get_or ls j zero_load) ≡ false) → some_pending ls ≡ false
    back [] h = refl
    back (l ∷ ls) h = rw (h 0) (back ls (λ j. h (suc j)))

-- THE HIGHEST SERVER THAT IS READY

pub first_ready : (ss : List Server) (es : List Entry) → length ss ≡ length es → (d : Server) (e : Entry)
    → FirstOf (λ (i : ℕ). readyb (get_or ss i d).kind (get_or es i e)) (length ss) (chosen_from ss es)
first_ready [] es h d e = record { below = omega arith; here = λ l. absurd (omega arith); above = λ i l. absurd (omega arith) }
first_ready (s ∷ ss) [] h d e = absurd (omega arith)
first_ready (s ∷ ss) (x ∷ es) h d e =
    first_more (λ (i : ℕ). readyb (get_or (s ∷ ss) i d).kind (get_or (x ∷ es) i e)) (length ss) (chosen_from ss es) (readyb s.kind x) refl (first_ready ss es (omega arith) d e)

-- AS A PLACE

pick_cond : {A : Type 0} (b : Bool) (x y : A) → pick b x y ≡ cond b x y
pick_cond true x y = refl
pick_cond false x y = refl

position_more : {A : Type 0} (p : A → Bool) (x : A) (xs : List A) → position_or_len p (x ∷ xs) ≡ pick (p x) 0 (suc (position_or_len p xs))
position_more p x xs = go (p x)
  where
    go : (b : Bool) → cond (not b) (1 + position_or_len p xs) 0 ≡ pick b 0 (suc (position_or_len p xs))
    go true = refl
    go false = omega arith

first_position : (ls : List Load) → first_pending ls ≡ position_or_len pendingb ls
first_position [] = refl
first_position (l ∷ ls) = ap (λ k. pick (pendingb l) 0 (suc k)) (first_position ls) ∙ sym (position_more pendingb l ls)

pub first_placed : (ls : List Load) → length ls ≡ entries → cond (ltb (position_or_len pendingb ls) (length ls)) (Some (position_or_len pendingb ls)) None ≡ place_in (first_pending ls)
first_placed ls full = rw (full, first_position ls) (sym (pick_cond (ltb (position_or_len pendingb ls) entries) _ _))

pub some_placed : (ls : List Load) → length ls ≡ entries → is_some (place_in (first_pending ls)) ≡ some_pending ls
some_placed ls full = go (ltb (first_pending ls) entries) ∙ sym (rw full at (some_first ls))
  where
    go : (b : Bool) → is_some (pick b (Some (first_pending ls)) None) ≡ b
    go true = refl
    go false = refl

-- THE HIGHEST SERVER AS A PLACE

-- a server and its entry
abbrev pub pair_ready : Server × Entry → Bool
pair_ready p = readyb p.0.kind p.1

chosen_position : (ss : List Server) (es : List Entry) → chosen_from ss es ≡ position_or_len pair_ready (zip ss es)
chosen_position [] es = refl
chosen_position (s ∷ ss) [] = refl
chosen_position (s ∷ ss) (e ∷ es) =
    ap (λ k. pick (readyb s.kind e) 0 (suc k)) (chosen_position ss es) ∙ sym (position_more pair_ready (s, e) (zip ss es))

pub chosen_placed : (ss : List Server) (es : List Entry) → length (zip ss es) ≡ entries
    → cond (ltb (position_or_len pair_ready (zip ss es)) (length (zip ss es))) (Some (position_or_len pair_ready (zip ss es))) None ≡ place_in (chosen_from ss es)
chosen_placed ss es full = rw (full, chosen_position ss es) (sym (pick_cond (ltb (position_or_len pair_ready (zip ss es)) entries) _ _))

-- THE TESTS OF A KIND, BY THE KIND THAT A NUMBER IS

abbrev wants_as : Option Kind → Bool → Bool
wants_as (Some Idling) b = true
wants_as (Some Deferrable) b = b
wants_as (Some Polling) b = b
wants_as None b = false

pub wants_kind : (k : ℕ) (e : Entry) → wantsb k e ≡ wants_as (known_kind k) (some_pending e.loads)
unfolding wantsb
wants_kind k e = go (eqb k idling_kind) (eqb k deferrable_kind) (eqb k polling_kind)
  where
    go : (a b c : Bool) → pick a true (both (pick b true c) (some_pending e.loads)) ≡ wants_as (pick a (Some Idling) (pick b (Some Deferrable) (pick c (Some Polling) None))) (some_pending e.loads)
    go true b c = refl
    go false true c = refl
    go false false true = refl
    go false false false = refl
