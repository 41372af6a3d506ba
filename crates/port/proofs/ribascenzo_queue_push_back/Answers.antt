-- `ribascenzo_queue_push_back` meets its contract: an accepted call's queue can be stored (`push_back_fits`). Assumes nothing.
use Rattle.std.proofs.Common.{rules}
use Rattle.port.specs.Words.{queue_in}
use Rattle.port.proofs.Storing.{push_back_fits}
use Rattle.port.proofs.ribascenzo_queue_push_back.Goals as goal

pub change-requires-clause-fits : goal.change-requires-clause-fits
change-requires-clause-fits c = λ r q s. push_back_fits (queue_in c.args.q.now) r q (search rules)
