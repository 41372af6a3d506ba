use Rattle.std.proofs.Common.{◌≡◌, refl, ◌∙◌, ◌∷◌, ◌+◌, ◌-◌, eqb, length-set, arith, add-one}
use borrow.Author.Tests.{eq-eqb, ne_eqb}
use Rattle.small.specs.Small.{pick}
use Rattle.queue.specs.Limits.{max_gap, filler}
use Rattle.queue.specs.Moves.{link_of, links}
use Rattle.queue.proofs.Moving.{links_first, links_none}
use Rattle.queue.proofs.Queue.link.Goals as goal
use Rattle.queue.proofs.Queue.link.Goals.{then-i-end, else-i-end}

pub loop-i-init : goal.loop-i-init
loop-i-init c =
    (refl, refl, refl)

pub loop-i-preserved : goal.loop-i-preserved
loop-i-preserved c =
    let l = c.loop-i in
    let ch = c.args.chain in
    let end = c.args.at + ch.cells in
    let k : end - l.i - 1 ≡ end - (l.i + 1) = omega arith in
    let e : c.if-i-end.id ≡ pick (eqb (end - (l.i + 1)) 0) ch.id filler = elim c.if-i-end.branch [
      | then-i-end w ↦ w.id-is ∙ rw (eq-eqb (end - (l.i + 1)) 0 (omega (arith, w.if-i-end.true)))
      | else-i-end w ↦ w.id-is ∙ rw (ne_eqb (end - (l.i + 1)) 0 (λ z. w.if-i-end.false (omega arith)))
    ] in
    let t : links max_gap (end - l.i) ch.id l.gap ≡ link_of (end - (l.i + 1)) ch.id l.gap ∷ links max_gap (end - (l.i + 1)) ch.id max_gap =
    rw k at (links_first max_gap (end - l.i) ch.id l.gap (omega arith)) in
    (l.invariant.0, length-set l.self.cells l.i _ ∙ l.invariant.1, rw (e, add-one) (rw (t, add-one) at l.invariant.2))

pub returns : goal.returns
returns c =
    let l = c.loop-i in
    let ch = c.args.chain in
    let n : c.args.at + ch.cells - c.args.at ≡ ch.cells = omega arith in
    let e = rw (links_none max_gap (c.args.at + ch.cells - l.i) ch.id l.gap (omega arith), n) at l.invariant.2 in
    λ i. record { cells = e i; len = l.invariant.0 i }
