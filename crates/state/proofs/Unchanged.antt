-- "A refusal answers its number, the place (0 where none is named below) and zero in every other part ..; a queue, state or table handed in comes back as it was,
-- unsound ones too." That the place is 0 stands in Refusals. Assumes nothing.
use mathlib.Core.Path.{◌≡◌, ap}
use mathlib.Core.List.{[]}
use mathlib.Core.Logic.{◌≢◌}
use lib.ListN.{replicate}
use Rattle.refusal.specs.Refusal.{first_of}
use Rattle.queue.specs.Row.{queue_of}
use Rattle.table.specs.Limits.{entries}
use Rattle.table.specs.declared.Table.{Table}
use Rattle.state.specs.State.{zero_entry}
use Rattle.state.specs.Fresh.{Made, empty_state, fresh_checks, made_with, fresh_of}
use Rattle.state.proofs.Answers.{fresh_decided}

module _ (t : Table) where
  -- the table as it was, and zero elsewhere
  pub fresh_unchanged : (fresh_of t).refusal.number ≢ 0
      → ((fresh_of t).state.table ≡ t) × ((fresh_of t).state.entries ≡ replicate entries zero_entry) × ((fresh_of t).state.refills ≡ queue_of [])
  fresh_unchanged h =
      let e : fresh_of t ≡ made_with (first_of (fresh_checks t)) (empty_state t) = ((fresh_decided t).refused h).1 in
      (ap (λ (m : Made). m.state.table) e, ap (λ (m : Made). m.state.entries) e, ap (λ (m : Made). m.state.refills) e)
