-- `field::put` meets its contract: a store before the bytes written is one byte more written (`over_before`), and where the field does not fit nothing is
-- written. Assumes nothing.
use Rattle.std.proofs.Common.{◌≡◌, sym, ◌^◌, ◌/◌, ◌+◌, ◌-◌, arith, add-one, length}
use native.Mathlib.Nat.{div-div-eq-div-mul}
use Rattle.std.proofs.lemmas.Grind.{pow_more}
use Rattle.field.specs.Field.{big}
use Rattle.field.proofs.Fields.{over_nil, over_before, over_past, length_big}
use Rattle.field.proofs.put.Goals as goal
use Rattle.field.proofs.put.Goals.{else-at-out-via-then-at-out+else-WIDTH-out, else-at-out-via-else-at-out}

pub loop-k-init : goal.loop-k-init
loop-k-init g c =
    (omega arith, sym (over_nil _ _ (omega arith)))

pub loop-k-preserved : goal.loop-k-preserved
loop-k-preserved g c =
    let n = g.T.Field.value c.args.n in
    let k = c.loop-k.k in
    let (low, out) = c.loop-k.invariant in
    let left : c.loop-k.left / 256 ≡ n / 256 ^ (k + 1) = rw (low, pow_more 256 k, div-div-eq-div-mul) in
    let at = c.args.at + (c.WIDTH-k-end.result - (k + 1)) in
    let here : c.args.at + c.WIDTH-in-loop-k.result - 1 - k ≡ at = omega arith in
    let behind : c.args.at + (c.WIDTH-k-end.result - k) ≡ at + 1 = omega arith in
    let l = length_big k n in
    (left, rw (here, out, behind, low, over_before at _ (big k n) c.args.out.now (omega arith), add-one))

pub returns-else-at-out : goal.returns-else-at-out
returns-else-at-out g c =
    let bytes = big g.T.Field.WIDTH (g.T.Field.value c.args.n) in
    let l : length bytes ≡ g.T.Field.WIDTH = length_big _ _ in
    sym {b = c.args.out.now} (over_past c.args.at bytes c.args.out.now (elim c.else-at-out.branch [ else-at-out-via-then-at-out+else-WIDTH-out w ↦ omega arith | else-at-out-via-else-at-out w ↦ omega arith ]))
