-- `ribascenzo_queue_insert` meets its contract: an accepted call's queue can be stored (`insert_fits`). Assumes nothing.
use Rattle.std.proofs.Common.{rules}
use Rattle.port.specs.Words.{queue_in}
use Rattle.port.proofs.Storing.{insert_fits}
use Rattle.port.proofs.ribascenzo_queue_insert.Goals as goal

pub change-requires-clause-fits : goal.change-requires-clause-fits
change-requires-clause-fits c = λ r q s. insert_fits (queue_in c.args.q.now) r q c.args.id c.args.delay (search rules)
