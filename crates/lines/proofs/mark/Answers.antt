-- `lines::mark` meets its contract: a number up to 9 is one digit, and another is put behind the space. Assumes nothing.
use mathlib.Core.Path.{refl}
use mathlib.Core.List.{[], ◌∷◌}
use Prim.Native.Nat.{◌+◌, ◌≤◌}
use native.Mathlib.Omega.{arith}
use lib.ListN.{length, length-set}
use Rattle.lines.specs.Lines.{space}
use Rattle.lines.specs.Decimal.{digit, decimal}
use Rattle.lines.proofs.DecimalLaws.{decimal_one}
use Rattle.lines.proofs.Decimals.{decimal_length}
use Rattle.lines.proofs.Pieces.{puts_two, over_byte, over_bytes}
use Rattle.lines.proofs.mark.Goals as goal

pub bounds-out-at-then-n-le9 : goal.bounds-out-at-then-n-le9
bounds-out-at-then-n-le9 c =
    simp length-set (omega (arith, decimal_length c.args.n))

pub returns-then-n-le9-clause-answer : goal.returns-then-n-le9-clause-answer
returns-then-n-le9-clause-answer c =
    rw (decimal_one c.args.n (omega arith)) refl

pub returns-then-n-le9-clause-buffer : goal.returns-then-n-le9-clause-buffer
returns-then-n-le9-clause-buffer c =
    let l = decimal_length c.args.n in
    rw (decimal_one c.args.n (omega arith)) (over_bytes c.args.at space (digit c.args.n) c.args.out.now (omega arith))

pub returns-else-n-le9-clause-buffer : goal.returns-else-n-le9-clause-buffer
returns-else-n-le9-clause-buffer c =
    let h : c.args.at + (1 + length (decimal c.args.n)) ≤ length c.args.out.now = omega arith in
    (puts_two c.args.at (space ∷ []) (decimal c.args.n) c.args.out.now h
    (refl, over_byte c.args.at space c.args.out.now (omega arith))
    (c.number.ensures.answer, c.number.ensures.buffer)).1
