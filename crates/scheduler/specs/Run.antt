-- A run of k ticks in one call, for the desk and for catching up: the answers of k single ticks in a row and the state after them. At most 64: a run of
-- more is a run of 64, and the answer says how many there were.
use Rattle.std.specs.Prelude.{not, List, [], ◌∷◌, ℕ, zero, suc, min, eqb, Result, Ok, Err}
use Rattle.small.specs.Small.{pick, padded}
use Rattle.refusal.specs.Numbers.{unsound}
use Rattle.refusal.specs.Refusal.{none, Check, check, first_of}
use Rattle.refusal.specs.Reason.{refusal_in}
use Rattle.refusal.specs.declared.Refusal.{Refusal}
use Rattle.refusal.specs.declared.Reason.{Reason}
use Rattle.state.specs.Sound.{stateb}
use Rattle.state.specs.declared.State.{State}
use Rattle.state.specs.declared.Choice.{Choice}
use Rattle.state.specs.declared.Choice.TheVariants.{Idle}
use Rattle.scheduler.specs.Tick.{tick_of}
use Rattle.scheduler.specs.declared.Answer.{Answer}
use Rattle.scheduler.specs.declared.Batch.{Batch}

abbrev pub batch_size : ℕ
batch_size = 64

abbrev pub answer : Choice → ℕ → Answer
answer c n = record { choice = c; handled = n }

-- what single ticks in a row answer, and the state behind them
abbrev pub answers_of : ℕ → State → List Answer
answers_of zero s = []
answers_of (suc k) s = answer (tick_of s).choice (tick_of s).handled ∷ answers_of k (tick_of s).state

abbrev pub state_after_ticks : ℕ → State → State
state_after_ticks zero s = s
state_after_ticks (suc k) s = state_after_ticks k (tick_of s).state

-- the array of the answers of k ticks
abbrev pub answers_in : ℕ → State → List Answer
answers_in k s = padded (answer Idle 0) batch_size (answers_of k s)

abbrev pub ticks_in : ℕ → ℕ
ticks_in k = min k batch_size

abbrev pub run_checks : State → List Check
run_checks s = check unsound (not (stateb s)) ∷ []

-- the answers of a run, and the state after it
pub record Batched : Type 0 where
  pub answers : List Answer
  pub state : State
  pub refusal : Refusal
  pub count : ℕ

abbrev pub batch_with : Refusal → List Answer → ℕ → State → Batched
batch_with r answers n s = record { answers = padded (answer Idle 0) batch_size answers; state = s; refusal = r; count = n }

unfoldable pub run_of : State → ℕ → Batched
run_of s k =
    let r = first_of (run_checks s) in
    pick (eqb r.number 0) (batch_with none (answers_of (ticks_in k) s) (ticks_in k) (state_after_ticks (ticks_in k) s)) (batch_with r [] 0 s)

-- what the outcome of the call, and the state that it leaves, are as that answer

abbrev pub batch_in : Result Batch Reason → Batch
batch_in (Ok b) = b
batch_in (Err r) = record { answers = padded (answer Idle 0) batch_size []; count = 0 }

abbrev pub batch_by : Result Batch Reason → State → Batched
batch_by o s = record { answers = (batch_in o).answers; state = s; refusal = refusal_in o; count = (batch_in o).count }
