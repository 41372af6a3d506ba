-- "A refusal answers its number, the place (0 where none is named below) and zero in every other part (the zero of a choice is on arrival, idle,
-- accepted, run 0); a queue, state or table handed in comes back as it was, unsound ones too." And what a call answers where it is not refused. That the
-- place is 0 stands in Refusals. Assumes nothing.
use mathlib.Core.Path.{◌≡◌, refl, ap}
use mathlib.Core.List.{[]}
use mathlib.Core.Logic.{◌≢◌}
use Prim.Native.Nat.{ℕ}
use lib.ListN.{replicate}
use Rattle.refusal.specs.Refusal.{none, first_of}
use Rattle.state.specs.Choice.{choice_of}
use Rattle.state.specs.declared.State.{State}
use Rattle.state.specs.declared.Choice.TheVariants.{Idle}
use Rattle.state.proofs.Answers.{given_kept}
use Rattle.scheduler.specs.Arrive.{arrive_checks, arrived_with, arrive_of}
use Rattle.scheduler.specs.Tick.{state_after, handled_of, tick_checks, ticked_with, tick_of}
use Rattle.scheduler.specs.Run.{batch_size, answer, run_checks, batch_with, run_of}
use Rattle.scheduler.specs.declared.Arrival.TheVariants.{Accepted}
use Rattle.scheduler.specs.Tick.{Ticked}
use Rattle.scheduler.specs.Arrive.{Arrived}
use Rattle.scheduler.specs.Run.{Batched}

-- TICK

module _ (s : State) where
  -- the state as it was, idle, and no event handled
  pub tick_unchanged : (tick_of s).refusal.number ≢ 0 → ((tick_of s).state ≡ s) × ((tick_of s).choice ≡ Idle) × ((tick_of s).handled ≡ 0)
  unfolding tick_of
  tick_unchanged h =
      let r = first_of (tick_checks s) in
      let e : tick_of s ≡ ticked_with r Idle 0 s = given_kept (λ (t : Ticked). t.refusal.number) r (ticked_with none (choice_of s) (handled_of s) (state_after s)) (ticked_with r Idle 0 s) refl h in
      (ap (λ (t : Ticked). t.state) e, ap (λ (t : Ticked). t.choice) e, ap (λ (t : Ticked). t.handled) e)

-- ARRIVAL

module _ (s : State) (i j : ℕ) where
  -- the state as it was, and accepted
  pub arrive_unchanged : (arrive_of s i j).refusal.number ≢ 0 → ((arrive_of s i j).state ≡ s) × ((arrive_of s i j).arrival ≡ Accepted)
  unfolding arrive_of
  arrive_unchanged h =
      let r = first_of (arrive_checks s i j) in
      let e : arrive_of s i j ≡ arrived_with r Accepted s = given_kept (λ (a : Arrived). a.refusal.number) r _ (arrived_with r Accepted s) refl h in
      (ap (λ (a : Arrived). a.state) e, ap (λ (a : Arrived). a.arrival) e)

-- A RUN OF TICKS

module _ (s : State) (k : ℕ) where
  -- the state as it was, no tick, and every answer zero
  pub run_unchanged : (run_of s k).refusal.number ≢ 0
      → ((run_of s k).state ≡ s) × ((run_of s k).count ≡ 0) × ((run_of s k).answers ≡ replicate batch_size (answer Idle 0))
  unfolding run_of
  run_unchanged h =
      let r = first_of (run_checks s) in
      let e : run_of s k ≡ batch_with r [] 0 s = given_kept (λ (b : Batched). b.refusal.number) r _ (batch_with r [] 0 s) refl h in
      (ap (λ (b : Batched). b.state) e, ap (λ (b : Batched). b.count) e, ap (λ (b : Batched). b.answers) e)
