-- `ribascenzo_fresh` meets its contract: an accepted setup's table is sound (`read_sound`), and the words then hold the state in which it begins. Assumes nothing.
use Rattle.port.proofs.Answering.{read_sound}
use Rattle.port.proofs.ribascenzo_fresh.Goals as goal

pub begin-requires-clause-sound : goal.begin-requires-clause-sound
begin-requires-clause-sound c = (read_sound c.args.setup.now c.in-Ok.table c.in-Ok.ensures).0

pub begin-requires-clause-sized : goal.begin-requires-clause-sized
begin-requires-clause-sized c = (read_sound c.args.setup.now c.in-Ok.table c.in-Ok.ensures).1

pub returns-in-Ok : goal.returns-in-Ok
returns-in-Ok c =
    rw (← c.in-Ok.ensures) record { refusal = c.begin.ensures.refusal; state = c.begin.ensures.state }
