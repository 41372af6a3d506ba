-- `ribascenzo_queue_empty` meets its contract: the words of the empty queue, computed. Assumes nothing.
use mathlib.Core.Path.{refl}
use Rattle.queue.specs.Row.{queue_of}
use Rattle.port.specs.Words.{queue_words}
use Rattle.port.proofs.ribascenzo_queue_empty.Goals as goal

pub returns : goal.returns
unfolding queue_words queue_of
returns c =
    refl
