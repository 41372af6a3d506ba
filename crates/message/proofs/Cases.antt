-- What the definition of the reader comes to in each kind of message, from plain facts of the bytes. Assumes nothing.
use mathlib.Core.Path.{◌≡◌, refl}
use mathlib.Core.Bool.{Bool, true, false, not}
use mathlib.Core.List.{List}
use mathlib.Core.Logic.{◌↔◌, ◌≢◌, ◌⊎◌, inl, inr}
use Prim.Native.Nat.{ℕ, ◌≤◌}
use native.Mathlib.Omega.{arith}
use lib.Dec.{eqb}
use lib.ListN.{length, drop}
use borrow.Author.Tests.{eq-eqb, ne_eqb, eqb-true, eqb-false, le-ltb, not-true, not-false}
use Rattle.small.specs.Small.{pick}
use Rattle.small.proofs.Tests.{contrary}
use Rattle.refusal.specs.Refusal.{none}
use Rattle.field.specs.Field.{byte_of, field_of}
use Rattle.message.specs.Message.{read_with, other_kind, read_of}
use Rattle.message.specs.declared.Message.TheVariants.{Run, Arrival}

-- KINDS

-- "kind not 1 or 2"
pub other_kind_lem : (k : ℕ) → other_kind k ≡ true ↔ (k ≢ 1) × (k ≢ 2)
other_kind_lem k = (forth (eqb k 1) refl, λ h. rw (ne_eqb k 1 h.0, ne_eqb k 2 h.1))
  where
    forth : (b : Bool) → eqb k 1 ≡ b → pick b false (not (eqb k 2)) ≡ true → (k ≢ 1) × (k ≢ 2)
    forth true e h = contrary h refl
    forth false e h = (eqb-false k 1 e, eqb-false k 2 (not-true _ h))

pub known_kind_lem : (k : ℕ) → other_kind k ≡ false ↔ ((k ≡ 1) ⊎ (k ≡ 2))
known_kind_lem k = (forth (eqb k 1) refl, back)
  where
    forth : (b : Bool) → eqb k 1 ≡ b → pick b false (not (eqb k 2)) ≡ false → (k ≡ 1) ⊎ (k ≡ 2)
    forth true e h = inl (eqb-true k 1 e)
    forth false e h = inr (eqb-true k 2 (not-false _ h))

    back : (k ≡ 1) ⊎ (k ≡ 2) → other_kind k ≡ false
    back (inl e) = rw e
    back (inr e) = rw e

-- THE READER

-- "Message, six bytes: length 6 (2 bytes), version 1": what is known where the kind is looked at
abbrev pub Frame : List ℕ → Type 0
Frame bs = (6 ≤ length bs) × (field_of 2 bs ≡ 6) × (byte_of 2 bs ≡ 1)

module _ (bs : List ℕ) where
  pub is_run : Frame bs → byte_of 3 bs ≡ 1 → read_of bs ≡ read_with none (Run (field_of 2 (drop 4 bs)))
  unfolding read_of
  is_run (h, l, v) k = rw (le-ltb (length bs) 2 (omega arith), eq-eqb _ 6 l, le-ltb _ 6 h, eq-eqb _ 1 v, k)

  pub is_arrival : Frame bs → byte_of 3 bs ≡ 2 → read_of bs ≡ read_with none (Arrival (byte_of 4 bs) (byte_of 5 bs))
  unfolding read_of
  is_arrival (h, l, v) k = rw (le-ltb (length bs) 2 (omega arith), eq-eqb _ 6 l, le-ltb _ 6 h, eq-eqb _ 1 v, k)
