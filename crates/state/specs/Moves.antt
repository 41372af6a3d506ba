-- What only laws speak of. No promise is stated by these.
use Rattle.std.specs.Prelude.{List, ℕ, ◌≤◌}
use Rattle.small.specs.Small.{All}
use Rattle.queue.specs.Row.{Event}
use Rattle.state.specs.State.{most_pending}
use Rattle.state.specs.declared.Load.{Load}

-- every event of a list is one of these ids
abbrev pub AllOf : (ℕ → Type 0) → List Event → Type 0
AllOf P es = All (λ e. P e.id) es

-- the loads can take an arrival of every task
abbrev pub PendingBelow : List Load → Type 0
PendingBelow ls = All (λ l. l.pending.0 ≤ most_pending) ls
