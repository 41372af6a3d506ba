-- A kind in the code and the document's number of it.
use Rattle.std.specs.Prelude.{ℕ, eqb, Result, Ok, Err, Option, Some, None}
use Rattle.small.specs.Small.{pick}
use Rattle.refusal.specs.declared.Reason.{Reason}
use Rattle.refusal.specs.declared.Reason.TheVariants.{ServerKind}
use Rattle.table.specs.Kind.{idling_kind, deferrable_kind, polling_kind}
use Rattle.table.specs.declared.Kind.{Kind}
use Rattle.table.specs.declared.Kind.TheVariants.{Idling, Deferrable, Polling}

abbrev pub kind_number : Kind → ℕ
kind_number Idling = idling_kind
kind_number Deferrable = deferrable_kind
kind_number Polling = polling_kind

-- the kind that a number is, where it is one
abbrev pub known_kind : ℕ → Option Kind
known_kind n =
    pick (eqb n idling_kind) (Some Idling)
    (pick (eqb n deferrable_kind) (Some Deferrable)
    (pick (eqb n polling_kind) (Some Polling) None))

-- and where it is none, refused: "kind not 1, 2 or 3"
abbrev pub kind_of : ℕ → Result Kind Reason
kind_of n =
    pick (eqb n idling_kind) (Ok Idling)
    (pick (eqb n deferrable_kind) (Ok Deferrable)
    (pick (eqb n polling_kind) (Ok Polling) (Err ServerKind)))
