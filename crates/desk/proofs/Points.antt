-- Document 01's example, computed: its 62 bytes give the whole output that the document prints. Assumes nothing.
use mathlib.Core.Path.{◌≡◌, refl}
use Rattle.queue.specs.Row.{cells_of, queue_of, cells_for}
use Rattle.queue.specs.Sound.{sameb, soundb}
use Rattle.queue.specs.Holds.{holdsb}
use Rattle.queue.specs.Calls.{insert_of, clock_of, take_of}
use Rattle.table.specs.Sound.{tableb}
use Rattle.setup.specs.Read.{task_checks, task_of, head_checks, server_checks, server_of, start_checks, setup_checks, table_of, read_of as setup_of}
use Rattle.message.specs.Message.{read_of}
use Rattle.state.specs.Sound.{entryb, stateb}
use Rattle.state.specs.Choice.{wantsb, chosen_of, choice_of}
use Rattle.state.specs.Polling.{lapsed}
use Rattle.state.specs.Fresh.{fresh_queue, fresh_entry, fresh_state, fresh_of}
use Rattle.scheduler.specs.Arrive.{load_after, arrive_of}
use Rattle.scheduler.specs.Tick.{charge, turn_of, room_of, served4, state_after, handled_of, againb, tick_of}
use Rattle.lines.specs.Decimal.{decimal}
use Rattle.desk.specs.Desk.{open_of, asked_of, arrived_of, message_of}
use Rattle.desk.specs.Trace.{trace_of}
use Rattle.desk.specs.Worked.{worked_input, worked_output}

pub worked_trace : trace_of worked_input ≡ worked_output
unfolding insert_of clock_of take_of holdsb soundb sameb cells_of queue_of cells_for tableb
    task_checks task_of head_checks server_checks server_of start_checks setup_checks table_of setup_of read_of
    entryb stateb wantsb chosen_of choice_of lapsed load_after arrive_of charge turn_of room_of served4 state_after handled_of againb tick_of
    fresh_queue fresh_entry fresh_state fresh_of decimal open_of asked_of arrived_of message_of trace_of
worked_trace = refl
