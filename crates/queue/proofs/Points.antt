-- The queue's points on the edge, all by computing. Assumes nothing.
use mathlib.Core.Path.{refl}
use Rattle.queue.specs.Row.{cells_of, queue_of, cells_for}
use Rattle.queue.specs.Sound.{sameb, soundb}
use Rattle.queue.specs.Calls.{insert_of, remove_of, clock_of, push_back_of}
use Rattle.queue.specs.Edge.{QueueEdge}

pub queue_edge : QueueEdge
unfolding insert_of remove_of clock_of push_back_of soundb sameb cells_of queue_of cells_for
queue_edge =
    record {
      at_65535 = refl;
      at_65536 = refl;
      at_131071 = refl;
      at_1000000 = refl;
      cells_1000000 = refl;
      three_put_lem = refl;
      one_removed = refl;
      clocked = refl;
      pushed = refl;
      sixteen = refl;
      full = refl;
      full_cells = refl;
      seventeen = refl;
      no_room_lem = refl;
    }
