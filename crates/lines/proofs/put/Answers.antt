-- `lines::put` meets its contract: without room nothing is done, and with room the text stands there. Assumes nothing.
use mathlib.Core.Path.{sym, ◌∙◌}
use Prim.Native.Nat.{◌+◌}
use lib.ListN.{length}
use borrow.Author.Tests.{leb-false}
use Rattle.field.proofs.Fields.{over_past}
use Rattle.lines.proofs.put.Goals as goal

pub returns-else-fits-clause-buffer : goal.returns-else-fits-clause-buffer
returns-else-fits-clause-buffer c =
    let a = c.args in
    sym (over_past a.at a.text.now a.out.now (leb-false (a.at + length a.text.now) (length a.out.now) (sym c.fits.ensures ∙ c.if-fits.false)))
