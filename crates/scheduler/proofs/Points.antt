-- The points on the edge, all by computing. Assumes nothing.
use mathlib.Core.Path.{refl}
use Rattle.queue.specs.Row.{cells_of, queue_of, cells_for}
use Rattle.queue.specs.Sound.{sameb, soundb}
use Rattle.queue.specs.Holds.{holdsb}
use Rattle.queue.specs.Calls.{insert_of, clock_of, take_of}
use Rattle.queue.proofs.Points.{queue_edge}
use Rattle.table.specs.Sound.{tableb}
use Rattle.state.specs.Sound.{entryb, stateb}
use Rattle.state.specs.Choice.{wantsb, chosen_of, choice_of}
use Rattle.state.specs.Polling.{lapsed}
use Rattle.state.specs.Fresh.{fresh_queue, fresh_entry, fresh_state, fresh_of}
use Rattle.scheduler.specs.Arrive.{load_after, arrive_of}
use Rattle.scheduler.specs.Tick.{charge, turn_of, room_of, served4, state_after, handled_of, againb, tick_of}
use Rattle.scheduler.specs.Edge.{SchedulerEdge}
use Rattle.scheduler.specs.PollingEdge.{PollingEdge}

pub edge : SchedulerEdge
unfolding insert_of clock_of take_of holdsb soundb sameb cells_of queue_of cells_for tableb entryb stateb wantsb chosen_of choice_of load_after arrive_of charge turn_of room_of served4 state_after handled_of againb tick_of fresh_queue fresh_entry fresh_state fresh_of lapsed
edge =
    record {
      queue = queue_edge;
      burned = refl;
      full_accepted = refl;
      full_says = refl;
      full_load = refl;
      over_accepted = refl;
      over_says = refl;
      over_load = refl;
      setup_accepted = refl;
      arrival_accepted = refl;
      arrival_says_lem = refl;
      eight = refl;
    }

-- polling servers
pub polling_edge : PollingEdge
unfolding insert_of clock_of take_of holdsb soundb sameb cells_of queue_of cells_for tableb entryb stateb wantsb chosen_of choice_of lapsed load_after arrive_of charge turn_of room_of served4 state_after handled_of againb tick_of fresh_queue fresh_entry fresh_state fresh_of
polling_edge =
    record {
      polled_fresh = refl;
      polled_eight = refl;
      polls_fresh = refl;
      polls_budgets = refl;
      later_fresh = refl;
      later_budgets = refl;
      called_budgets = refl;
      called_answers = refl;
      busy_budgets = refl;
      two_budgets = refl;
      idle_sound = refl;
      idle_funded = refl;
      idle_refused = refl;
      working_unfunded = refl;
      working_one = refl;
      working_full = refl;
    }
