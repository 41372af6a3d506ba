-- `ribascenzo_tick` meets its contract: an accepted tick's state can be stored (`tick_fits`). Assumes nothing.
use Rattle.std.proofs.Common.{rules}
use Rattle.port.proofs.Answering.{tick_fits}
use Rattle.port.proofs.ribascenzo_tick.Goals as goal

pub change-requires-clause-fits : goal.change-requires-clause-fits
change-requires-clause-fits c = λ r x s. tick_fits c.args.s.now x r (search rules)
