-- `ribascenzo_setup_write` meets its contract: the length of a setup fits into a word (`length_fits`). Assumes nothing.
use Rattle.std.proofs.Common.{length}
use Rattle.port.proofs.Answering.{length_fits}
use Rattle.port.proofs.ribascenzo_setup_write.Goals as goal

pub map-requires : goal.map-requires
map-requires c = λ n e. rw e at (length_fits c.args.table.now (length c.args.out.now) c.write.result (rw (← c.held.ensures) c.write.ensures.answer))
