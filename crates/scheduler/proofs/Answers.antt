-- Laws of the answers of the calls: what is given where nothing is refused. Unchanged has what is given where something is. Assumes nothing.
use mathlib.Core.Path.{◌≡◌, refl}
use mathlib.Core.List.{[]}
use Prim.Native.Nat.{ℕ}
use lib.ListN.{get_or}
use Rattle.refusal.specs.Refusal.{none, first_of}
use Rattle.state.specs.State.{zero_load, server_at, entry_at, task_at}
use Rattle.state.specs.Choice.{choice_of}
use Rattle.state.specs.declared.State.{State}
use Rattle.state.specs.declared.Choice.TheVariants.{Idle}
use Rattle.state.proofs.Answers.{given_next}
use Rattle.scheduler.specs.Arrive.{fitsb, arrival_by, arrive_checks, arrived_state, arrived_with, arrive_of}
use Rattle.scheduler.specs.Tick.{state_after, handled_of, tick_checks, ticked_with, tick_of}
use Rattle.scheduler.specs.Run.{answers_of, state_after_ticks, ticks_in, run_checks, batch_with, run_of}
use Rattle.scheduler.specs.declared.Arrival.{Arrival}
use Rattle.scheduler.specs.declared.Arrival.TheVariants.{Accepted}
use Rattle.scheduler.specs.Tick.{Ticked}
use Rattle.scheduler.specs.Arrive.{Arrived}
use Rattle.scheduler.specs.Run.{Batched}

-- TICK: the four steps

module _ (s : State) where
  pub tick_done : (tick_of s).refusal.number ≡ 0 → tick_of s ≡ ticked_with none (choice_of s) (handled_of s) (state_after s)
  unfolding tick_of
  tick_done h =
      let r = first_of (tick_checks s) in
      given_next (λ (t : Ticked). t.refusal.number) r (ticked_with none (choice_of s) (handled_of s) (state_after s)) (ticked_with r Idle 0 s) refl h

-- ARRIVAL

module _ (s : State) (i j : ℕ) where
  -- "It says accepted or lost."
  abbrev pub arrival_says : Arrival
  arrival_says = arrival_by (fitsb (task_at (server_at s i) j).work.0 (get_or (entry_at s i).loads j zero_load))

  pub arrive_done : (arrive_of s i j).refusal.number ≡ 0 → arrive_of s i j ≡ arrived_with none arrival_says (arrived_state s i j)
  unfolding arrive_of
  arrive_done h =
      let r = first_of (arrive_checks s i j) in
      given_next (λ (a : Arrived). a.refusal.number) r (arrived_with none arrival_says (arrived_state s i j)) (arrived_with r Accepted s) refl h

-- A RUN OF TICKS: the answers of single ticks in a row

module _ (s : State) (k : ℕ) where
  pub run_done : let n = ticks_in k in (run_of s k).refusal.number ≡ 0 → run_of s k ≡ batch_with none (answers_of n s) n (state_after_ticks n s)
  unfolding run_of
  run_done h =
      let n = ticks_in k in
      let r = first_of (run_checks s) in
      given_next (λ (b : Batched). b.refusal.number) r (batch_with none (answers_of n s) n (state_after_ticks n s)) (batch_with r [] 0 s) refl h
