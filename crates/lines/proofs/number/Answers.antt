use mathlib.Core.Path.{◌≡◌, sym, ap, ◌∙◌}
use mathlib.Core.List.{List}
use Prim.Native.Nat.{ℕ, ◌+◌, ◌-◌, ◌≤◌}
use native.Mathlib.Omega.{arith}
use lib.ListN.{length}
use Rattle.field.specs.Field.{over}
use Rattle.field.proofs.Fields.{over_nil}
use Rattle.lines.specs.Decimal.{decimal}
use Rattle.lines.proofs.DecimalLaws.{decimal_lowest}
use Rattle.lines.proofs.Pieces.{number_step}
use Rattle.lines.proofs.number.Goals as goal

pub loop-i-init : goal.loop-i-init
loop-i-init c =
    let e : c.args.at + c.places.result - c.args.at ≡ length (decimal c.args.n) = omega (arith, c.places.ensures) in
    (omega arith, rw e (ap (λ (ds : List ℕ). over c.args.at ds c.args.out.now) (sym (decimal_lowest c.args.n))))

pub loop-i-preserved : goal.loop-i-preserved
loop-i-preserved c =
    let l = c.loop-i in
    let k : l.i ≤ length l.out = omega (arith, l.auto.i, l.auto.out, c.places.ensures) in
    (omega arith, sym (number_step c.args.at l.i l.rest l.out (omega arith) k) ∙ l.invariant.1)

pub returns-clause-buffer : goal.returns-clause-buffer
returns-clause-buffer c =
    let l = c.loop-i in
    let e : l.i - c.args.at ≡ 0 = omega arith in
    sym (over_nil c.args.at l.out (omega (arith, l.auto.out))) ∙ (rw e at l.invariant.1)
