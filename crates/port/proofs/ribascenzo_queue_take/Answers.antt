-- `ribascenzo_queue_take` meets its contract: an accepted call's queue can be stored (`take_fits`). Assumes nothing.
use Rattle.std.proofs.Common.{rules}
use Rattle.port.specs.Words.{queue_in}
use Rattle.port.proofs.Storing.{take_fits}
use Rattle.port.proofs.ribascenzo_queue_take.Goals as goal

pub change-requires-clause-fits : goal.change-requires-clause-fits
change-requires-clause-fits c = λ r q s. take_fits (queue_in c.args.q.now) r q (search rules)
