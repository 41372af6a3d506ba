-- HISTORIES: calls in a row from some state, and the ticks that are seen of them. Whatever is said "over any calls" is said of these. What is quoted is
-- document 01's, document 02's where it is named, or the demand's own words.
use Rattle.std.specs.Prelude.{List, [], ◌∷◌, ◌++◌, map, ℕ, zero, suc, ◌+◌, eqb, take, get_or}
use Rattle.small.specs.Small.{pick}
use Rattle.table.specs.declared.Table.{Table}
use Rattle.state.specs.Fresh.{fresh_of}
use Rattle.state.specs.declared.State.{State}
use Rattle.state.specs.declared.Choice.{Choice}
use Rattle.scheduler.specs.Arrive.{arrive_of}
use Rattle.scheduler.specs.Tick.{tick_of}
use Rattle.scheduler.specs.Run.{ticks_in, run_of}
use Rattle.scheduler.specs.declared.Answer.{Answer}

-- "over any calls": a tick, a run of any number of ticks in one call, and an arrival at any server and task, also at one that is not there
pub data Call : Type 0 where
  tick : Call
  run : ℕ → Call
  arrival : ℕ → ℕ → Call

-- what is seen of one tick: the state before it, and whom its answer chooses
pub record Seen : Type 0 where
  pub state : State
  pub choice : Choice

abbrev pub seen : State → Seen
seen s = record { state = s; choice = (tick_of s).choice }

-- what is seen of a run's answers from a state on: each one's choice, with the state before its tick
abbrev pub seen_by : List Answer → State → List Seen
seen_by [] s = []
seen_by (a ∷ rest) s = record { state = s; choice = a.choice } ∷ seen_by rest (tick_of s).state

-- The ticks of a history from a state on, in order. "refused calls are no ticks"; a refused run answers a count of 0. An arrival is seen in the state of
-- the ticks after it.
unfoldable pub ticks_of : State → List Call → List Seen
ticks_of s [] = []
ticks_of s (tick ∷ cs) =
    pick (eqb (tick_of s).refusal.number 0) (seen s ∷ ticks_of (tick_of s).state cs) (ticks_of (tick_of s).state cs)
ticks_of s (run k ∷ cs) = let r = run_of s k in seen_by (take r.count r.answers) s ++ ticks_of r.state cs
ticks_of s (arrival i j ∷ cs) = ticks_of (arrive_of s i j).state cs

-- the state after arrivals, each of a server and a task
abbrev pub arrived : State → List (ℕ × ℕ) → State
arrived s [] = s
arrived s (a ∷ rest) = arrived (arrive_of s a.0 a.1).state rest

-- how many ticks the calls ask for; a run of more than 64 is a run of 64
unfoldable pub ticks_asked : List Call → ℕ
ticks_asked [] = 0
ticks_asked (tick ∷ cs) = suc (ticks_asked cs)
ticks_asked (run k ∷ cs) = ticks_in k + ticks_asked cs
ticks_asked (arrival i j ∷ cs) = ticks_asked cs

-- "from a fresh setup": the ticks of the calls from the fresh state of a table on
abbrev pub history_of : Table → List Call → List Seen
history_of t cs = ticks_of (fresh_of t).state cs

-- the state at the end of a tick, "after all events are handled": arrival calls between it and the next tick come behind it
abbrev pub tick_end : Seen → State
tick_end x = (tick_of x.state).state

-- "at the end of the tick before the period (in the fresh state, for a period that begins at tick 0)": of these ticks from the state s on, before tick b
abbrev pub end_before : State → List Seen → ℕ → State
end_before s xs zero = s
end_before s xs (suc b) = get_or (map tick_end xs) b s
