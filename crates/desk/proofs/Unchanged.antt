-- "A refusal answers its number, the place .. and zero in every other part": a refused setup begins no run, and a refused message or batch leaves the run as it was.
-- Assumes nothing.
use mathlib.Core.Path.{◌≡◌, refl, sym, ap, ◌∙◌}
use mathlib.Core.List.{List}
use mathlib.Core.Logic.{◌≢◌}
use Prim.Native.Nat.{ℕ}
use Rattle.queue.specs.Limits.{longest}
use Rattle.table.specs.Limits.{most_work}
use Rattle.table.specs.Table.{zero_table}
use Rattle.table.specs.Sound.{tableb}
use Rattle.setup.proofs.Unchanged.{read_refused}
use Rattle.state.specs.Fresh.{empty_state, fresh_of}
use Rattle.lines.specs.declared.Line.TheVariants.{Refused}
use Rattle.desk.specs.Desk.{RanOn, Met, desk_with, open_of, message_of, not_run, ran_of}
use Rattle.desk.specs.Meaning.{line_number}
use Rattle.desk.specs.declared.Desk.{Desk}
use Rattle.desk.proofs.Cases.{message_cases, arrived_number, arrived_refused, run_on_decided}

-- THE SETUP: "and zero in every other part"
pub open_zero : (bs : List ℕ) → (open_of bs).refusal.number ≢ 0 → (open_of bs).desk ≡ desk_with (empty_state zero_table) 0 0
unfolding open_of fresh_of tableb
open_zero bs h = rw (read_refused longest most_work bs h)

-- A MESSAGE

module _ (d : Desk) (k : ℕ) (bs : List ℕ) where
  abbrev m : Met
  m = message_of d k bs

  -- the place that is written is the message's, and the run stays as it was: "A message refused with 21 runs none of its ticks"
  pub message_refused : line_number m.line ≢ 0 → (m.line ≡ Refused (line_number m.line) k) × (m.desk ≡ d)
  message_refused =
      message_cases d k bs (λ (x : Met). line_number x.line ≢ 0 → (x.line ≡ Refused (line_number x.line) k) × (x.desk ≡ d))
      (λ s z. (refl, refl))
      (λ s h z. (refl, refl))
      (λ s n e h z. (refl, refl))
      (λ s n e h z. absurd (z refl))
      (λ s i j e z. arrived_refused d i j k (λ f. z (arrived_number d i j k ∙ f)))

-- A BATCH OF TICKS

module _ (d : Desk) where
  -- the run as it was, "and zero in every other part"
  pub run_on_refused : (ran_of d).refusal.number ≢ 0 → ran_of d ≡ not_run (ran_of d).refusal d
  run_on_refused h =
      let e = ((run_on_decided d).refused h).1 in
      e ∙ ap (λ (r : RanOn). not_run r.refusal d) (sym e)
