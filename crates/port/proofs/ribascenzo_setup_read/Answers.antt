-- `ribascenzo_setup_read` meets its contract: an accepted setup's table can be stored (`read_fits`). Assumes nothing.
use Rattle.port.proofs.Answering.{read_fits}
use Rattle.port.proofs.ribascenzo_setup_read.Goals as goal

pub store-requires-clause-fits : goal.store-requires-clause-fits
store-requires-clause-fits c = read_fits c.args.setup.now c.read.result c.read.ensures
