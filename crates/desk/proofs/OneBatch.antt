-- One batch of a run: what it gives where the state is sound and the limit is kept, and that it leaves fewer ticks. Assumes nothing.
use mathlib.Core.Path.{◌≡◌}
use mathlib.Core.Bool.{true}
use mathlib.Core.List.{List}
use Prim.Native.Nat.{ℕ, ◌+◌, ◌-◌, ◌≤◌, ◌<◌}
use native.Mathlib.Omega.{arith}
use borrow.Author.Tests.{le-ltb}
use Rattle.small.specs.Small.{padded}
use Rattle.refusal.specs.Refusal.{none}
use Rattle.state.specs.Sound.{stateb}
use Rattle.state.specs.declared.Choice.TheVariants.{Idle}
use Rattle.scheduler.specs.Run.{batch_size, answer, answers_of, state_after_ticks, ticks_in}
use Rattle.scheduler.specs.declared.Answer.{Answer}
use Rattle.scheduler.proofs.Refusals.{run_accepted}
use Rattle.scheduler.proofs.Answers.{run_done}
use Rattle.desk.specs.Desk.{tick_limit, desk_with, ran_with, ran_of}
use Rattle.desk.specs.declared.Desk.{Desk}
use Rattle.desk.proofs.Refusals.{run_on_accepted}

-- how many ticks it has, the row of its answers, and the run behind it
abbrev pub size : Desk → ℕ
size d = ticks_in d.left

abbrev pub row : Desk → List Answer
row d = padded (answer Idle 0) batch_size (answers_of (size d) d.state)

abbrev pub next : Desk → Desk
next d = desk_with (state_after_ticks (size d) d.state) (d.ran + size d) (d.left - size d)

-- a batch of a sound run: the answers of single ticks, and the run behind them
pub batch_is : (d : Desk) → stateb d.state ≡ true → d.ran + d.left ≤ tick_limit
    → ran_of d ≡ ran_with none (row d) (next d) d.ran (size d)
unfolding ran_of
batch_is d h l = rw (h, le-ltb tick_limit (d.ran + d.left) l, run_done d.state d.left ((run_accepted d.state d.left).1 h))

-- BATCHES END: of any run, kept or not, each that is not refused leaves fewer ticks
pub left_falls : (d : Desk) → (ran_of d).refusal.number ≡ 0 → 0 < d.left → (ran_of d).desk.left < d.left
left_falls d a h =
    let (s, l) = (run_on_accepted d).0 a in
    rw (batch_is d s l) (omega arith)
