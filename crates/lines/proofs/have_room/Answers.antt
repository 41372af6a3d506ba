use mathlib.Core.Path.{◌≡◌, sym}
use Prim.Native.Nat.{◌+◌}
use native.Mathlib.Numerals.{add-one}
use native.Mathlib.Omega.{arith}
use lib.ListN.{length, length-append, get_or}
use borrow.Author.Tests.{le-leb, lt-leb}
use Rattle.lines.proofs.Batch.{zero_answer, tick_length, lines_more, lines_length, lines_next}
use Rattle.lines.proofs.have_room.Goals as goal

pub returns-then-answers-left : goal.returns-then-answers-left
returns-then-answers-left c =
    sym (le-leb _ (length c.args.out.now) (omega (arith, lines_length c.args.first (length c.args.answers.now) c.args.answers.now)))

pub tick-n-requires : goal.tick-n-requires
tick-n-requires c =
    omega (arith, tick_length (c.args.first + c.loop-i.i) (get_or c.args.answers.now c.loop-i.i zero_answer).choice)

pub returns-then-rest-n : goal.returns-then-rest-n
returns-then-rest-n c =
    let l = c.loop-i in
    let xs = c.args.answers.now in
    let next = lines_next c.args.first l.i (length xs) xs zero_answer (omega arith) (omega arith) in
    sym (lt-leb _ (length c.args.out.now) (omega (arith, l.invariant, next, c.tick-n.ensures.answer)))

pub loop-i-preserved : goal.loop-i-preserved
loop-i-preserved c =
    let l = c.loop-i in
    rw (add-one, lines_more c.args.first l.i c.args.answers.now zero_answer (omega arith), length-append) (omega (arith, l.invariant, c.tick-n.ensures.answer))

pub returns : goal.returns
returns c =
    let l = c.loop-i in
    let e : l.i ≡ length c.args.answers.now = omega arith in
    sym (le-leb _ (length c.args.out.now) (omega (arith, rw e at l.invariant)))
