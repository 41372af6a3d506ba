-- `lines::choice` meets its contract: its pieces, each behind the last, are its text. Assumes nothing.
use mathlib.Core.List.{[], ◌∷◌, ◌++◌}
use native.Mathlib.Omega.{arith}
use Rattle.lines.specs.Lines.{newline, mark_text, dash_text}
use Rattle.lines.proofs.Batch.{burning_length, running_length}
use Rattle.lines.proofs.Pieces.{puts_two, puts_three}
use Rattle.lines.proofs.choice.Goals as goal

pub returns-in-Burning-clause-buffer : goal.returns-in-Burning-clause-buffer
returns-in-Burning-clause-buffer c =
    let i = c.in-Burning.server in
    let h = rw c.in-Burning.is at c.requires in
    rw c.in-Burning.is
    (puts_two c.args.at (mark_text i) (dash_text ++ (newline ∷ [])) c.args.out.now (omega (arith, h, burning_length i))
    (c.mark-p.ensures.answer, c.mark-p.ensures.buffer)
    (c.copy-in-Burning.ensures.answer, c.copy-in-Burning.ensures.buffer)).1

pub returns-in-Running-clause-buffer : goal.returns-in-Running-clause-buffer
returns-in-Running-clause-buffer c =
    let i = c.in-Running.server in
    let j = c.in-Running.task in
    let h = rw c.in-Running.is at c.requires in
    rw c.in-Running.is
    (puts_three c.args.at (mark_text i) (mark_text j) (newline ∷ []) c.args.out.now (omega (arith, h, running_length i j))
    (c.mark-p-in-Running.ensures.answer, c.mark-p-in-Running.ensures.buffer)
    (c.mark-q.ensures.answer, c.mark-q.ensures.buffer)
    (c.byte.ensures.answer, c.byte.ensures.buffer)).1
