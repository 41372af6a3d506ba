-- How many ticks a batch of those that are left has. Assumes nothing.
use mathlib.Core.Bool.{Bool, true, false}
use mathlib.Core.List.{[]}
use Prim.Native.Nat.{ℕ, ◌≤◌}
use native.Mathlib.Omega.{arith}
use lib.Dec.{eqb}
use Rattle.small.specs.Small.{pick}
use Rattle.refusal.specs.Refusal.{none, first_of}
use Rattle.state.specs.declared.State.{State}
use Rattle.scheduler.specs.Run.{batch_size, answers_of, state_after_ticks, ticks_in, run_checks, batch_with, run_of}

-- a run has no more ticks than it is asked for, and never more than 64
pub count_most : (s : State) (k : ℕ) → ((run_of s k).count ≤ k) × ((run_of s k).count ≤ batch_size)
unfolding run_of
count_most s k = go (eqb (first_of (run_checks s)).number 0)
  where
    go : (b : Bool) → let n = ticks_in k in let t = pick b (batch_with none (answers_of n s) n (state_after_ticks n s)) (batch_with (first_of (run_checks s)) [] 0 s) in
        (t.count ≤ k) × (t.count ≤ batch_size)
    go true = (omega arith, omega arith)
    go false = (omega arith, omega arith)
