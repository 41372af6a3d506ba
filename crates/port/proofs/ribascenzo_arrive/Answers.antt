-- `ribascenzo_arrive` meets its contract: an accepted arrival's state can be stored (`arrive_fits`). Assumes nothing.
use Rattle.std.proofs.Common.{rules}
use Rattle.port.proofs.Answering.{arrive_fits}
use Rattle.port.proofs.ribascenzo_arrive.Goals as goal

pub change-said-requires-clause-fits : goal.change-said-requires-clause-fits
change-said-requires-clause-fits c = λ r x s. arrive_fits c.args.s.now x c.args.server c.args.task r (search rules)
