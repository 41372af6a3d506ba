-- `words::Entry::read` meets its contract: its parts are read where the definition reads them.
use Rattle.port.specs.Words.{entry_in}
use Rattle.port.proofs.Many.{behind_place}
use Rattle.port.proofs.words.EntryWords.read.Goals as goal

pub returns : goal.returns
unfolding entry_in
returns c = rw (c.read_all.ensures, c.read.ensures, behind_place 1 _, behind_place 17 _)
