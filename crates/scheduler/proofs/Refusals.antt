-- "Given exactly when": each refusal number of each call of the scheduler, and number 0 where a call is not refused. Assumes nothing.
use mathlib.Core.Path.{◌≡◌, refl, ap}
use mathlib.Core.Bool.{true, false, not}
use mathlib.Core.Logic.{◌↔◌}
use Prim.Native.Nat.{ℕ, ◌≤◌, ◌<◌}
use lib.Dec.{eqb}
use borrow.Author.Tests.{eq-eqb, eqb-true, lt-ltb, le-ltb, ltb-true, ltb-false, not-true, not-false}
use Rattle.small.proofs.Tests.{contrary}
use Rattle.refusal.specs.Numbers.{no_server, no_task, task_periodic, no_room_again, unsound}
use Rattle.refusal.specs.Refusal.{first_of}
use Rattle.refusal.proofs.Exactly.{number_when, none_when, no_place}
use Rattle.table.specs.Table.{release_number}
use Rattle.table.specs.declared.Release.{Release}
use Rattle.table.specs.declared.Release.TheVariants.{OnArrival, Periodic}
use Rattle.state.specs.State.{server_at, task_at}
use Rattle.state.specs.Sound.{stateb}
use Rattle.state.specs.declared.State.{State}
use Rattle.state.proofs.Answers.{given_number, given_place}
use Rattle.scheduler.specs.Arrive.{arrive_checks, arrive_of}
use Rattle.scheduler.specs.Tick.{againb, tick_checks, tick_of}
use Rattle.scheduler.specs.Run.{run_checks, run_of}
use Rattle.scheduler.specs.Tick.{Ticked}
use Rattle.scheduler.specs.Arrive.{Arrived}
use Rattle.scheduler.specs.Run.{Batched}

-- TICK

module _ (s : State) where
  tick_number : (tick_of s).refusal.number ≡ (first_of (tick_checks s)).number
  unfolding tick_of
  tick_number = given_number (λ (t : Ticked). t.refusal) (first_of (tick_checks s)) _ _ refl refl

  -- "queue, state or table handed in isn't sound"
  pub tick_31 : (tick_of s).refusal.number ≡ unsound ↔ (stateb s ≡ false)
  tick_31 = number_when _ (tick_checks s) tick_number 0 refl refl (λ h. not-true _ h.1) (λ h. (tt, ap not h))

  -- "tick: putting an event in again would need more than 32 cells"
  pub tick_30 : (tick_of s).refusal.number ≡ no_room_again ↔ (stateb s ≡ true) × (againb s ≡ false)
  tick_30 =
      number_when _ (tick_checks s) tick_number 1 refl refl
      (λ h. (not-false _ h.0.0, not-true _ h.1))
      (λ h. ((ap not h.0, tt), ap not h.1))

  -- and no refusal exactly when no test holds
  pub tick_accepted : (tick_of s).refusal.number ≡ 0 ↔ (stateb s ≡ true) × (againb s ≡ true)
  tick_accepted =
      none_when _ (tick_checks s) tick_number refl
      (λ h. (not-false _ h.0, not-false _ h.1.0))
      (λ h. (ap not h.0, (ap not h.1, tt)))

  -- "the place (0 where none is named below)"
  pub tick_place : (tick_of s).refusal.place ≡ 0
  unfolding tick_of
  tick_place = given_place (λ (t : Ticked). t.refusal) (first_of (tick_checks s)) _ _ refl refl (no_place (tick_checks s) refl)

-- ARRIVAL

-- a release that is not periodic is on arrival
not_periodic : (r : Release) → eqb (release_number r) 1 ≡ false → release_number r ≡ 0
not_periodic OnArrival e = refl
not_periodic (Periodic T O) e = contrary refl e

module _ (s : State) (i j : ℕ) where
  arrive_number : (arrive_of s i j).refusal.number ≡ (first_of (arrive_checks s i j)).number
  unfolding arrive_of
  arrive_number = given_number (λ (a : Arrived). a.refusal) (first_of (arrive_checks s i j)) _ _ refl refl

  -- the task's release: 0 on arrival, 1 periodic
  abbrev release_at : ℕ
  release_at = release_number (task_at (server_at s i) j).release

  -- "queue, state or table handed in isn't sound"
  pub arrive_31 : (arrive_of s i j).refusal.number ≡ unsound ↔ (stateb s ≡ false)
  arrive_31 = number_when _ (arrive_checks s i j) arrive_number 0 refl refl (λ h. not-true _ h.1) (λ h. (tt, ap not h))

  -- "no such server"
  pub arrive_18 : (arrive_of s i j).refusal.number ≡ no_server ↔ (stateb s ≡ true) × (s.table.count ≤ i)
  arrive_18 =
      number_when _ (arrive_checks s i j) arrive_number 1 refl refl
      (λ h. (not-false _ h.0.0, ltb-false i s.table.count (not-true _ h.1)))
      (λ h. ((ap not h.0, tt), ap not (le-ltb i s.table.count h.1)))

  -- "no such task"
  pub arrive_19 : (arrive_of s i j).refusal.number ≡ no_task ↔ (stateb s ≡ true) × (i < s.table.count) × ((server_at s i).count ≤ j)
  arrive_19 =
      number_when _ (arrive_checks s i j) arrive_number 2 refl refl
      (λ h. (not-false _ h.0.0, ltb-true i s.table.count (not-false _ h.0.1.0), ltb-false j (server_at s i).count (not-true _ h.1)))
      (λ h. ((ap not h.0, (ap not (lt-ltb i s.table.count h.1), tt)), ap not (le-ltb j (server_at s i).count h.2)))

  -- "task is periodic"
  pub arrive_20 : (arrive_of s i j).refusal.number ≡ task_periodic
      ↔ (stateb s ≡ true) × (i < s.table.count) × (j < (server_at s i).count) × (release_at ≡ 1)
  arrive_20 =
      number_when _ (arrive_checks s i j) arrive_number 3 refl refl
      (λ h. (not-false _ h.0.0, ltb-true i s.table.count (not-false _ h.0.1.0), ltb-true j (server_at s i).count (not-false _ h.0.1.1.0), eqb-true release_at 1 h.1))
      (λ h. ((ap not h.0, (ap not (lt-ltb i s.table.count h.1), (ap not (lt-ltb j (server_at s i).count h.2), tt))), eq-eqb release_at 1 h.3))

  -- and no refusal exactly when no test holds
  pub arrive_accepted : (arrive_of s i j).refusal.number ≡ 0
      ↔ (stateb s ≡ true) × (i < s.table.count) × (j < (server_at s i).count) × (release_at ≡ 0)
  arrive_accepted =
      none_when _ (arrive_checks s i j) arrive_number refl
      (λ h. (not-false _ h.0, ltb-true i s.table.count (not-false _ h.1.0), ltb-true j (server_at s i).count (not-false _ h.1.1.0), not_periodic (task_at (server_at s i) j).release h.1.1.1.0))
      (λ h. (ap not h.0, (ap not (lt-ltb i s.table.count h.1), (ap not (lt-ltb j (server_at s i).count h.2), (ap (λ (n : ℕ). eqb n 1) h.3, tt)))))

  -- "the place (0 where none is named below)"
  pub arrive_place : (arrive_of s i j).refusal.place ≡ 0
  unfolding arrive_of
  arrive_place = given_place (λ (a : Arrived). a.refusal) (first_of (arrive_checks s i j)) _ _ refl refl (no_place (arrive_checks s i j) refl)

-- A RUN OF TICKS

module _ (s : State) (k : ℕ) where
  run_number : (run_of s k).refusal.number ≡ (first_of (run_checks s)).number
  unfolding run_of
  run_number = given_number (λ (b : Batched). b.refusal) (first_of (run_checks s)) _ _ refl refl

  -- "queue, state or table handed in isn't sound"
  pub run_31 : (run_of s k).refusal.number ≡ unsound ↔ (stateb s ≡ false)
  run_31 = number_when _ (run_checks s) run_number 0 refl refl (λ h. not-true _ h.1) (λ h. (tt, ap not h))

  -- and no refusal exactly when no test holds
  pub run_accepted : (run_of s k).refusal.number ≡ 0 ↔ (stateb s ≡ true)
  run_accepted = none_when _ (run_checks s) run_number refl (λ h. not-false _ h.0) (λ h. (ap not h, tt))

  -- "the place (0 where none is named below)"
  pub run_place : (run_of s k).refusal.place ≡ 0
  unfolding run_of
  run_place = given_place (λ (b : Batched). b.refusal) (first_of (run_checks s)) _ _ refl refl (no_place (run_checks s) refl)
