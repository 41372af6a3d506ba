-- "Given exactly when": the refusal number of the fresh state, and number 0 where it is not refused. Assumes nothing.
use mathlib.Core.Path.{◌≡◌, refl, ap}
use mathlib.Core.Bool.{true, false, not}
use mathlib.Core.Logic.{◌↔◌}
use borrow.Author.Tests.{not-true, not-false}
use Rattle.refusal.specs.Numbers.{unsound}
use Rattle.refusal.specs.Refusal.{first_of}
use Rattle.refusal.proofs.Exactly.{number_when, none_when, no_place}
use Rattle.queue.specs.Limits.{longest}
use Rattle.table.specs.Limits.{most_work}
use Rattle.table.specs.Sound.{tableb}
use Rattle.table.specs.declared.Table.{Table}
use Rattle.state.specs.Fresh.{fresh_checks, fresh_of}
use Rattle.state.proofs.Answers.{fresh_decided}

module _ (t : Table) where
  fresh_number : (fresh_of t).refusal.number ≡ (first_of (fresh_checks t)).number
  fresh_number = (fresh_decided t).number

  -- "queue, state or table handed in isn't sound"
  pub fresh_31 : (fresh_of t).refusal.number ≡ unsound ↔ (tableb longest most_work t ≡ false)
  fresh_31 = number_when _ (fresh_checks t) fresh_number 0 refl refl (λ h. not-true _ h.1) (λ h. (tt, ap not h))

  -- and no refusal exactly when no test holds
  pub fresh_accepted : (fresh_of t).refusal.number ≡ 0 ↔ (tableb longest most_work t ≡ true)
  fresh_accepted = none_when _ (fresh_checks t) fresh_number refl (λ h. not-false _ h.0) (λ h. (ap not h, tt))

  -- "the place (0 where none is named below)"
  pub fresh_place : (fresh_of t).refusal.place ≡ 0
  fresh_place = (fresh_decided t).place (no_place (fresh_checks t) refl)
