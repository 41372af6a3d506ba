-- `ribascenzo_queue_clock` meets its contract: an accepted call's queue can be stored (`clock_fits`). Assumes nothing.
use Rattle.std.proofs.Common.{rules}
use Rattle.port.specs.Words.{queue_in}
use Rattle.port.proofs.Storing.{clock_fits}
use Rattle.port.proofs.ribascenzo_queue_clock.Goals as goal

pub change-requires-clause-fits : goal.change-requires-clause-fits
change-requires-clause-fits c = λ r q s. clock_fits (queue_in c.args.q.now) r q (search rules)
