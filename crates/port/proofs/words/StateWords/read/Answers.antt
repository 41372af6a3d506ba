-- `words::State::read` meets its contract: its parts are read where the definition reads them.
use Rattle.port.specs.Words.{state_in}
use Rattle.port.proofs.Many.{behind_place}
use Rattle.port.proofs.words.StateWords.read.Goals as goal

pub returns : goal.returns
unfolding state_in
returns c = rw (c.read_all.ensures, c.read.ensures, c.read-2.ensures, behind_place 322 _, behind_place 289 _)
