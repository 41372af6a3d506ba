-- The words of document 01, and of document 02 where it is named, that the laws of a tick are stated in.
use Rattle.std.specs.Prelude.{Bool, ◌≡◌, List, [], ◌∷◌, ℕ, ◌+◌, ◌-◌, eqb}
use Rattle.small.specs.Small.{pick, both}
use Rattle.queue.specs.Row.{Event, events_of}
use Rattle.state.specs.State.{period_at, full_at}
use Rattle.state.specs.Choice.{choice_of, servesb}
use Rattle.state.specs.declared.Entry.{Entry}
use Rattle.state.specs.declared.State.{State}
use Rattle.state.specs.Meaning.{budget_at, refill_away, lapses_at, arrival_there, arrival_away}

-- What a tick does to server i. "The server's budget and the chosen task's work fall by 1": where it is served; its replenishment comes 1 nearer. A polling
-- server that the tick leaves without work gives its budget up (document 02, #101)
pub record Spent (s next : State) (i : ℕ) : Type 0 where
  pub budget : budget_at next i ≡ pick (lapses_at next i) 0 (budget_at s i - pick (servesb (choice_of s) i) 1 0)
  pub refill : refill_away next i ≡ refill_away s i - 1

-- "Due replenishments set the budget to C and are put in again P away.", and a polling server that is left without work gives it up
pub record Filled (s next : State) (i : ℕ) : Type 0 where
  pub budget : budget_at next i ≡ pick (lapses_at next i) 0 (full_at s i)
  pub refill : refill_away next i ≡ period_at s i

-- the arrival of task j of server i is due in the tick
abbrev pub arrives : State → ℕ → ℕ → Bool
arrives s i j = both (arrival_there s i j) (eqb (arrival_away s i j) 1)

-- how many events of a queue are 1 away, and of all servers' queues: those are "the events due in step 4"

abbrev pub due_next : List Event → ℕ
due_next [] = 0
due_next (e ∷ es) = pick (eqb e.at 1) 1 0 + due_next es

abbrev pub all_due_next : List Entry → ℕ
all_due_next [] = 0
all_due_next (e ∷ es) = due_next (events_of e.arrivals) + all_due_next es
