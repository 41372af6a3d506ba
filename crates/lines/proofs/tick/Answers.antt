-- `lines::tick` meets its contract: the number, and behind it what is chosen. Assumes nothing.
use native.Mathlib.Omega.{arith}
use lib.ListN.{length-append}
use Rattle.lines.specs.Decimal.{decimal}
use Rattle.lines.specs.Lines.{choice_text}
use Rattle.lines.proofs.Pieces.{puts_two}
use Rattle.lines.proofs.tick.Goals as goal

pub returns-clause-buffer : goal.returns-clause-buffer
returns-clause-buffer c =
    let a = c.args in
    (puts_two a.at (decimal a.n) (choice_text a.c) a.out.now (omega (arith, length-append (decimal a.n) (choice_text a.c)))
    (c.number-p.ensures.answer, c.number-p.ensures.buffer)
    (c.choice.ensures.answer, c.choice.ensures.buffer)).1
