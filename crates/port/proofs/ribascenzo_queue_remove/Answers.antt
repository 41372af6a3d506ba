-- `ribascenzo_queue_remove` meets its contract: an accepted call's queue can be stored (`remove_fits`). Assumes nothing.
use Rattle.std.proofs.Common.{rules}
use Rattle.port.specs.Words.{queue_in}
use Rattle.port.proofs.Storing.{remove_fits}
use Rattle.port.proofs.ribascenzo_queue_remove.Goals as goal

pub change-requires-clause-fits : goal.change-requires-clause-fits
change-requires-clause-fits c = λ r q s. remove_fits (queue_in c.args.q.now) r q c.args.id (search rules)
