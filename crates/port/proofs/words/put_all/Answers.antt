use Rattle.std.proofs.Common.{rules, arith}
use Rattle.port.proofs.Many.{put_more}
use Rattle.port.proofs.words.put_all.Goals as goal

pub loop-i-preserved : goal.loop-i-preserved
loop-i-preserved g c =
    put_more c.loop-i.invariant _ _ _ _ (omega arith) (search rules) c.put.ensures (omega arith) (search rules) (search rules)
