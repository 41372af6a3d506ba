-- `begin` meets its contract: the state of a sound table is made, fits into words, and is what the words then hold (`fresh_stored`). Assumes nothing.
use Rattle.port.proofs.Answering.{fresh_fits, fresh_stored}
use Rattle.port.proofs.begin.Goals as goal

pub store-requires-clause-fits : goal.store-requires-clause-fits
store-requires-clause-fits c = fresh_fits c.args.table.now c.requires.sound c.requires.sized c.fresh.result c.fresh.ensures

pub returns : goal.returns
returns c =
    let h = fresh_stored c.args.table.now c.requires.sound c.requires.sized c.fresh.result c.fresh.ensures c.store.result c.store.new.w c.args.s.now c.store.ensures in
    record { refusal = h.0; state = h.1 }
