-- `trace::Output::message` is safe and ends: each batch that is not refused leaves fewer ticks (`left_falls` of crate desk).
use Rattle.trace.proofs.Output.message.Given as goal

abbrev pub decreases-loop-desk : goal.decreases-loop-desk
decreases-loop-desk g l = l.desk.left
