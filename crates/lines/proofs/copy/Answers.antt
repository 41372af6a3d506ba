-- `lines::copy` meets its contract: what is copied to the part of the buffer stands there, and the rest is as it was. Assumes nothing.
use native.Mathlib.Omega.{arith}
use Rattle.lines.proofs.Pieces.{put_mid_over}
use Rattle.lines.proofs.copy.Goals as goal

pub returns-clause-buffer : goal.returns-clause-buffer
returns-clause-buffer c =
    put_mid_over c.args.at _ c.args.text.now c.args.out.now c.copy_from_slice.ensures.after (omega arith) c.requires
