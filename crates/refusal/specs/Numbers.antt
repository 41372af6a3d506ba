-- Document 01's table of refusal numbers, each with its words.
use Rattle.std.specs.Prelude.{ℕ}

-- setup under 4 bytes
abbrev pub setup_short : ℕ
setup_short = 1

-- stated length differs from what was given
abbrev pub length_differs : ℕ
length_differs = 2

-- setup version not 1
abbrev pub setup_version : ℕ
setup_version = 3

-- 0 or more than 8 servers
abbrev pub server_count : ℕ
server_count = 4

-- a server or task record runs past the end
abbrev pub record_cut : ℕ
record_cut = 5

-- kind not 1, 2 or 3 (document 01: "kind not 1 or 2"; document 02, #101: "Setup code 6 now allows 3.")
abbrev pub server_kind : ℕ
server_kind = 6

-- more than 8 tasks
abbrev pub task_count : ℕ
task_count = 7

-- P out of range
abbrev pub period_range : ℕ
period_range = 8

-- C is 0 or above P
abbrev pub budget_range : ℕ
budget_range = 9

-- release not 0 or 1
abbrev pub release_kind : ℕ
release_kind = 10

-- E out of range
abbrev pub work_range : ℕ
work_range = 11

-- T or O wrong for the release
abbrev pub release_times : ℕ
release_times = 12

-- bytes after the last record
abbrev pub bytes_left : ℕ
bytes_left = 13

-- message not whole
abbrev pub message_cut : ℕ
message_cut = 14

-- message length not 6
abbrev pub message_length : ℕ
message_length = 15

-- message version not 1
abbrev pub message_version : ℕ
message_version = 16

-- message kind not 1 or 2
abbrev pub message_kind : ℕ
message_kind = 17

-- arrival: no such server
abbrev pub no_server : ℕ
no_server = 18

-- arrival: no such task
abbrev pub no_task : ℕ
no_task = 19

-- arrival: task is periodic
abbrev pub task_periodic : ℕ
task_periodic = 20

-- program: the message would pass 1,000,000 ticks
abbrev pub ticks_passed : ℕ
ticks_passed = 21

-- insert: id 255
abbrev pub id_of_filler : ℕ
id_of_filler = 22

-- insert: id already there
abbrev pub id_there : ℕ
id_there = 23

-- insert: delay above 1,000,000
abbrev pub delay_too_long : ℕ
delay_too_long = 24

-- insert, push back: normal form would need more than 32 cells
abbrev pub no_room : ℕ
no_room = 25

-- remove, time left: no such event (255 included)
abbrev pub no_such_event : ℕ
no_such_event = 26

-- clock: an event is at distance 0
abbrev pub event_due : ℕ
event_due = 27

-- take: nothing at distance 0
abbrev pub nothing_due : ℕ
nothing_due = 28

-- push back: an event is at 1,000,000
abbrev pub at_longest : ℕ
at_longest = 29

-- tick: putting an event in again would need more than 32 cells
abbrev pub no_room_again : ℕ
no_room_again = 30

-- queue, state or table handed in isn't sound
abbrev pub unsound : ℕ
unsound = 31

-- buffer too short for what is written
abbrev pub buffer_short : ℕ
buffer_short = 32
