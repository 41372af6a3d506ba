-- `lines::number` meets its contract. The loop's invariant: the digits that are left, put before those that are written, give the buffer with the whole number.
-- Assumes nothing.
use mathlib.Core.Path.{◌≡◌}
use Prim.Native.Nat.{◌-◌, ◌≤◌}
use Rattle.field.specs.Field.{over}
use Rattle.lines.specs.Decimal.{decimal}
use Rattle.lines.proofs.DecimalLaws.{lowest}
use Rattle.lines.proofs.number.Given as goal

abbrev pub invariant-loop-i : goal.invariant-loop-i
invariant-loop-i l =
    (l.at ≤ l.i) × (over l.at (lowest (l.i - l.at) l.rest) l.out ≡ over l.at (decimal l.n) l.initial.out)
