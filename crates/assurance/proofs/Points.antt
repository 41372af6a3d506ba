-- Demand 3's numbers, all by computing. Assumes nothing.
use mathlib.Core.Path.{refl}
use Rattle.small.specs.Small.{sum_below, tally}
use Rattle.queue.specs.Row.{cells_of, queue_of, cells_for}
use Rattle.queue.specs.Sound.{sameb, soundb}
use Rattle.queue.specs.Holds.{holdsb}
use Rattle.queue.specs.Calls.{insert_of, clock_of, take_of}
use Rattle.table.specs.Sound.{tableb}
use Rattle.state.specs.Sound.{entryb, stateb}
use Rattle.state.specs.Choice.{wantsb, chosen_of, choice_of}
use Rattle.state.specs.Polling.{lapsed}
use Rattle.state.specs.Fresh.{fresh_queue, fresh_entry, fresh_state, fresh_of}
use Rattle.scheduler.specs.Arrive.{load_after, arrive_of}
use Rattle.scheduler.specs.Tick.{charge, turn_of, room_of, served4, state_after, handled_of, againb, tick_of}
use Rattle.scheduler.specs.Run.{run_of}
use Rattle.assurance.specs.History.{ticks_of}
use Rattle.assurance.specs.Demand3.{ceil, most_held, sure, period_ticks, period_ends}
use Rattle.assurance.specs.Worked.{Worked}

pub worked : Worked
unfolding insert_of clock_of take_of holdsb soundb sameb cells_of queue_of cells_for tableb entryb stateb wantsb chosen_of choice_of lapsed load_after arrive_of charge turn_of room_of served4 state_after handled_of againb tick_of run_of fresh_queue fresh_entry fresh_state fresh_of sum_below ceil most_held sure ticks_of period_ticks period_ends tally
worked =
    record {
      worked_W = refl;
      worked_sure = refl;
      tight_sound = refl;
      tight_whole = refl;
      tight_wants = refl;
      tight_W = refl;
      tight_held = refl;
      tight_sure = refl;
      tight_runs = refl;
      polled_sound = refl;
      polled_whole = refl;
      polled_works = refl;
      polled_held = refl;
      polled_sure = refl;
      polled_runs = refl;
      ending_sound = refl;
      ending_whole = refl;
      ending_works = refl;
      ending_done = refl;
      ending_runs = refl;
      late_sound = refl;
      late_whole = refl;
      late_wants = refl;
      late_before = refl;
      late_ends = refl;
      late_sure = refl;
      late_runs = refl;
    }
