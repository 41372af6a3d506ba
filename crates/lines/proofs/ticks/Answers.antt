use mathlib.Core.Path.{◌≡◌, sym, ◌∙◌}
use Prim.Native.Nat.{◌+◌, ◌-◌, ◌≤◌}
use native.Mathlib.Nat.{add-zero}
use native.Mathlib.Numerals.{add-one}
use native.Mathlib.Omega.{arith}
use lib.ListN.{length}
use borrow.Author.Tests.{leb-true, leb-false, le-ltb}
use Rattle.field.proofs.Fields.{over_nil, over_past}
use Rattle.lines.specs.Lines.{answer_lines}
use Rattle.lines.proofs.Pieces.{puts_two}
use Rattle.lines.proofs.Batch.{zero_answer, lines_more, lines_next}
use Rattle.lines.proofs.ticks.Goals as goal
use Rattle.lines.proofs.ticks.Goals.{Else-not-have_room}

-- past the test there is room for them
room : (c : Else-not-have_room) → c.args.at + length (answer_lines c.args.first (length c.args.answers.now) c.args.answers.now) ≤ length c.args.out.now
room c = leb-true _ (length c.args.out.now) (sym c.have_room.ensures ∙ c.if-not-have_room.false)

pub returns-then-not-have_room-clause-buffer : goal.returns-then-not-have_room-clause-buffer
returns-then-not-have_room-clause-buffer c =
    let out = c.args.out.now in
    sym (over_past c.args.at _ out (leb-false _ (length out) (sym c.have_room.ensures ∙ c.if-not-have_room.true)))

pub loop-i-init : goal.loop-i-init
loop-i-init c =
    (sym (add-zero c.args.at), sym (over_nil c.args.at c.args.out.now (omega (arith, room (goal.at.loop-i-init c).Else-not-have_room))))

pub tick-p-requires : goal.tick-p-requires
tick-p-requires c =
    let l = c.loop-i in
    let xs = c.args.answers.now in
    let next = lines_next c.args.first l.i (length xs) xs zero_answer (omega arith) (omega arith) in
    omega (arith, l.invariant.0, l.auto.out, next, room (goal.at.tick-p-requires c).Else-not-have_room)

pub loop-i-preserved : goal.loop-i-preserved
loop-i-preserved c =
    let l = c.loop-i in
    let xs = c.args.answers.now in
    let next = lines_next c.args.first l.i (length xs) xs zero_answer (omega arith) (omega arith) in
    rw (add-one, lines_more c.args.first l.i xs zero_answer (omega arith))
    (puts_two c.args.at _ _ c.args.out.now (omega (arith, room (goal.at.loop-i-preserved c).Else-not-have_room, next)) l.invariant
    (c.tick-p.ensures.answer, c.tick-p.ensures.buffer))

pub overflow_sub-p : goal.overflow_sub-p
overflow_sub-p c =
    omega (arith, c.loop-i.invariant.0)

pub returns-clause-answer : goal.returns-clause-answer
returns-clause-answer c =
    let l = c.loop-i in
    let e : l.i ≡ length c.args.answers.now = omega arith in
    let p = rw e at l.invariant in
    let n : l.p - c.args.at ≡ length (answer_lines c.args.first (length c.args.answers.now) c.args.answers.now) = omega (arith, p.0) in
    rw (le-ltb (length c.args.out.now) _ (room (goal.at.returns-clause-answer c).Else-not-have_room), ← n) c.whole.ensures

pub returns-clause-buffer : goal.returns-clause-buffer
returns-clause-buffer c =
    let l = c.loop-i in
    let e : l.i ≡ length c.args.answers.now = omega arith in
    (rw e at l.invariant).1
