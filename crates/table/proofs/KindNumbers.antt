-- A kind is that of its number, and a number has a kind exactly where the table's test of kinds holds. Assumes nothing.
use mathlib.Core.Path.{◌≡◌, refl}
use mathlib.Core.Bool.{Bool, true, false}
use Prim.Native.Nat.{ℕ}
use lib.Dec.{eqb}
use Rattle.std.specs.Prelude.{Ok, Err, Some, None, is_some, is_ok}
use Rattle.refusal.specs.declared.Reason.TheVariants.{ServerKind}
use Rattle.small.specs.Small.{pick}
use Rattle.table.specs.Kind.{idling_kind, deferrable_kind, polling_kind}
use Rattle.table.specs.Kinds.{kind_number, known_kind, kind_of}
use Rattle.table.specs.Sound.{kindb}
use Rattle.table.specs.declared.Kind.{Kind}
use Rattle.table.specs.declared.Kind.TheVariants.{Idling, Deferrable, Polling}

pub kind_read : (k : Kind) → kind_of (kind_number k) ≡ Ok k
kind_read Idling = refl
kind_read Deferrable = refl
kind_read Polling = refl

pub kind_known_read : (k : Kind) → known_kind (kind_number k) ≡ Some k
kind_known_read Idling = refl
kind_known_read Deferrable = refl
kind_known_read Polling = refl

pub known_is : (n : ℕ) → is_some (known_kind n) ≡ kindb n
known_is n = go (eqb n idling_kind) (eqb n deferrable_kind) (eqb n polling_kind)
  where
    go : (a b c : Bool) → is_some (pick a (Some Idling) (pick b (Some Deferrable) (pick c (Some Polling) None))) ≡ pick a true (pick b true c)
    go true b c = refl
    go false true c = refl
    go false false true = refl
    go false false false = refl

pub kind_of_is : (n : ℕ) → is_ok (kind_of n) ≡ kindb n
kind_of_is n = go (eqb n idling_kind) (eqb n deferrable_kind) (eqb n polling_kind)
  where
    go : (a b c : Bool) → is_ok (pick a (Ok Idling) (pick b (Ok Deferrable) (pick c (Ok Polling) (Err ServerKind)))) ≡ pick a true (pick b true c)
    go true b c = refl
    go false true c = refl
    go false false true = refl
    go false false false = refl
