-- Polling servers on the edge, worked out by hand from document 02, #101: proofs/Points.antt computes it.
use Rattle.std.specs.Prelude.{◌≡◌, true, false, List, [], ◌∷◌, ℕ, zero, suc}
use Rattle.small.specs.Small.{alter}
use Rattle.refusal.specs.Numbers.{unsound}
use Rattle.table.specs.Kind.{idling_kind, polling_kind}
use Rattle.state.specs.State.{with_budget}
use Rattle.state.specs.Sound.{stateb}
use Rattle.state.specs.Fresh.{fresh_of}
use Rattle.state.specs.Meaning.{budget_at}
use Rattle.state.specs.declared.State.{State}
use Rattle.state.specs.declared.Choice.TheVariants.{Idle, Burning, Running}
use Rattle.scheduler.specs.Arrive.{with_entries, arrive_of}
use Rattle.scheduler.specs.Tick.{tick_of}
use Rattle.scheduler.specs.Run.{answer, answers_of, state_after_ticks}
use Rattle.scheduler.specs.Edge.{on_arrival, periodic, server, setup}

-- server 0's budget behind each of so many ticks
abbrev pub budgets_of : ℕ → State → List ℕ
budgets_of zero s = []
budgets_of (suc n) s = budget_at (tick_of s).state 0 ∷ budgets_of n (tick_of s).state

-- document 01's example with server 0 polling: P 4, C 2, one task on arrival, E 3; server 1 idling, P 5, C 2, one periodic task, E 1, T 5, O 0
abbrev pub polled : State
polled = (fresh_of (setup (server polling_kind 4 2 (on_arrival 3 ∷ []) ∷ server idling_kind 5 2 (periodic 1 5 0 ∷ []) ∷ []))).state

-- one polling server, P 4, C 2, one periodic task, E 1, T 4, with its offset
abbrev pub polls_at : ℕ → State
polls_at O = (fresh_of (setup (server polling_kind 4 2 (periodic 1 4 O ∷ []) ∷ []))).state

-- one polling server, P 5, C 3, one task on arrival, E 2
abbrev pub called : State
called = (fresh_of (setup (server polling_kind 5 3 (on_arrival 2 ∷ []) ∷ []))).state

-- two ticks of it, and then its arrival
abbrev pub called_late : State
called_late = (arrive_of (state_after_ticks 2 called) 0 0).state

-- one polling server, P 6, C 4, one periodic task, E 2, T 2, O 0
abbrev pub busy : State
busy = (fresh_of (setup (server polling_kind 6 4 (periodic 2 2 0 ∷ []) ∷ []))).state

-- one polling server, P 4, C 3, a periodic task, E 1, T 8, O 0, and a task on arrival, E 1, whose arrival comes first
abbrev pub two : State
two = (arrive_of (fresh_of (setup (server polling_kind 4 3 (periodic 1 8 0 ∷ on_arrival 1 ∷ []) ∷ []))).state 0 1).state

-- a state in which server 0 has another budget
abbrev pub funded : ℕ → State → State
funded n s = with_entries (alter (with_budget n) s.entries 0) s

pub record PollingEdge : Type 0 where
  -- no work in the fresh state: its budget is 0, and what arrives waits for the refill at the end of tick 3
  pub polled_fresh : budget_at polled 0 ≡ 0
  pub polled_eight : answers_of 8 (arrive_of polled 0 0).state
      ≡ answer (Running 1 0) 0
      ∷ answer (Burning 1) 0
      ∷ answer Idle 0
      ∷ answer Idle 1
      ∷ answer (Running 0 0) 2
      ∷ answer (Running 0 0) 0
      ∷ answer (Running 1 0) 0
      ∷ answer (Burning 1) 1
      ∷ []
  -- work in the fresh state: its budget is C. Tick 0 does the work and the rest of the budget is given up; tick 3 refills it and brings work, so it stays
  pub polls_fresh : budget_at (polls_at 0) 0 ≡ 2
  pub polls_budgets : budgets_of 5 (polls_at 0) ≡ 0 ∷ 0 ∷ 0 ∷ 2 ∷ 0 ∷ []
  -- the same with its first arrival on tick 3
  pub later_fresh : budget_at (polls_at 4) 0 ≡ 0
  pub later_budgets : budgets_of 5 (polls_at 4) ≡ 0 ∷ 0 ∷ 0 ∷ 2 ∷ 0 ∷ []
  -- an arrival brings no budget back; the refill on tick 4 does, the work ends on tick 6, and the refill on tick 9 finds none
  pub called_budgets : budgets_of 8 called_late ≡ 0 ∷ 0 ∷ 3 ∷ 2 ∷ 0 ∷ 0 ∷ 0 ∷ 0 ∷ []
  pub called_answers : answers_of 8 called_late
      ≡ answer Idle 0
      ∷ answer Idle 0
      ∷ answer Idle 1
      ∷ answer (Running 0 0) 0
      ∷ answer (Running 0 0) 0
      ∷ answer Idle 0
      ∷ answer Idle 0
      ∷ answer Idle 1
      ∷ []
  -- tick 1 ends the work and brings more, with no refill: what is left of the budget stays
  pub busy_budgets : budgets_of 6 busy ≡ 3 ∷ 2 ∷ 1 ∷ 0 ∷ 0 ∷ 4 ∷ []
  -- work of another task keeps the budget, and its end gives it up; tick 3 refills without work, tick 7 with
  pub two_budgets : budgets_of 8 two ≡ 2 ∷ 0 ∷ 0 ∷ 0 ∷ 0 ∷ 0 ∷ 0 ∷ 3 ∷ []
  -- "In a sound state a polling server with no pending work has budget 0.", and with work it may have none, some or C
  pub idle_sound : stateb called ≡ true
  pub idle_funded : stateb (funded 1 called) ≡ false
  pub idle_refused : (tick_of (funded 1 called)).refusal.number ≡ unsound
  pub working_unfunded : stateb called_late ≡ true
  pub working_one : stateb (funded 1 called_late) ≡ true
  pub working_full : stateb (funded 3 called_late) ≡ true
