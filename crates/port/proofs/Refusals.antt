-- "Given exactly when": each refusal number of the two calls that read a budget and a load, and number 0 where they are not refused. Every other call has the
-- refusals of the library's call. Assumes nothing.
use mathlib.Core.Path.{◌≡◌, refl, ap}
use mathlib.Core.Bool.{true, false, not}
use mathlib.Core.Logic.{◌↔◌}
use Prim.Native.Nat.{ℕ, ◌≤◌, ◌<◌}
use borrow.Author.Tests.{lt-ltb, le-ltb, ltb-true, ltb-false, not-true, not-false}
use Rattle.refusal.specs.Numbers.{no_server, no_task, unsound}
use Rattle.refusal.proofs.Exactly.{number_when, none_when, no_place}
use Rattle.state.specs.State.{server_at}
use Rattle.state.specs.Sound.{stateb}
use Rattle.state.specs.declared.State.{State}
use Rattle.port.specs.Exports.{budget_checks, budget_refusal, load_checks, load_refusal}

-- A BUDGET

module _ (s : State) (i : ℕ) where
  -- "queue, state or table handed in isn't sound"
  pub budget_31 : (budget_refusal s i).number ≡ unsound ↔ (stateb s ≡ false)
  budget_31 = number_when _ (budget_checks s i) refl 0 refl refl (λ h. not-true _ h.1) (λ h. (tt, ap not h))

  -- "no such server"
  pub budget_18 : (budget_refusal s i).number ≡ no_server ↔ (stateb s ≡ true) × (s.table.count ≤ i)
  budget_18 =
      number_when _ (budget_checks s i) refl 1 refl refl
      (λ h. (not-false _ h.0.0, ltb-false i s.table.count (not-true _ h.1)))
      (λ h. ((ap not h.0, tt), ap not (le-ltb i s.table.count h.1)))

  -- and no refusal exactly when no test holds
  pub budget_accepted : (budget_refusal s i).number ≡ 0 ↔ (stateb s ≡ true) × (i < s.table.count)
  budget_accepted =
      none_when _ (budget_checks s i) refl refl
      (λ h. (not-false _ h.0, ltb-true i s.table.count (not-false _ h.1.0)))
      (λ h. (ap not h.0, (ap not (lt-ltb i s.table.count h.1), tt)))

  -- "the place (0 where none is named below)"
  pub budget_place : (budget_refusal s i).place ≡ 0
  budget_place = no_place (budget_checks s i) refl

-- A LOAD

module _ (s : State) (i j : ℕ) where
  -- "queue, state or table handed in isn't sound"
  pub load_31 : (load_refusal s i j).number ≡ unsound ↔ (stateb s ≡ false)
  load_31 = number_when _ (load_checks s i j) refl 0 refl refl (λ h. not-true _ h.1) (λ h. (tt, ap not h))

  -- "no such server"
  pub load_18 : (load_refusal s i j).number ≡ no_server ↔ (stateb s ≡ true) × (s.table.count ≤ i)
  load_18 =
      number_when _ (load_checks s i j) refl 1 refl refl
      (λ h. (not-false _ h.0.0, ltb-false i s.table.count (not-true _ h.1)))
      (λ h. ((ap not h.0, tt), ap not (le-ltb i s.table.count h.1)))

  -- "no such task"
  pub load_19 : (load_refusal s i j).number ≡ no_task ↔ (stateb s ≡ true) × (i < s.table.count) × ((server_at s i).count ≤ j)
  load_19 =
      number_when _ (load_checks s i j) refl 2 refl refl
      (λ h. (not-false _ h.0.0, ltb-true i s.table.count (not-false _ h.0.1.0), ltb-false j (server_at s i).count (not-true _ h.1)))
      (λ h. ((ap not h.0, (ap not (lt-ltb i s.table.count h.1), tt)), ap not (le-ltb j (server_at s i).count h.2)))

  -- and no refusal exactly when no test holds
  pub load_accepted : (load_refusal s i j).number ≡ 0 ↔ (stateb s ≡ true) × (i < s.table.count) × (j < (server_at s i).count)
  load_accepted =
      none_when _ (load_checks s i j) refl refl
      (λ h. (not-false _ h.0, ltb-true i s.table.count (not-false _ h.1.0), ltb-true j (server_at s i).count (not-false _ h.1.1.0)))
      (λ h. (ap not h.0, (ap not (lt-ltb i s.table.count h.1), (ap not (lt-ltb j (server_at s i).count h.2), tt))))

  -- "the place (0 where none is named below)"
  pub load_place : (load_refusal s i j).place ≡ 0
  load_place = no_place (load_checks s i j) refl
