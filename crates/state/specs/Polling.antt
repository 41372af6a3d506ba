-- Polling servers (kind 3): document 02, #101. "Kind 3 wants a tick as kind 2 does" (`wantsb`); here is what it gives up.
use Rattle.std.specs.Prelude.{Bool, not, ℕ, ltb, eqb}
use Rattle.small.specs.Small.{pick, both}
use Rattle.table.specs.Kind.{polling_kind}
use Rattle.table.specs.declared.Server.{Server}
use Rattle.state.specs.State.{with_budget}
use Rattle.state.specs.Choice.{some_pending}
use Rattle.state.specs.declared.Entry.{Entry}

abbrev pub pollsb : ℕ → Bool
pollsb kind = eqb kind polling_kind

-- "a polling server with no pending work"
abbrev pub lapsesb : ℕ → Entry → Bool
lapsesb kind e = both (pollsb kind) (not (some_pending e.loads))

-- such a server, with budget to give up
abbrev pub gives_upb : ℕ → Entry → Bool
gives_upb kind e = both (lapsesb kind e) (ltb 0 e.budget.0)

-- "has its budget set to 0 until its next refill": at setup, and at the end of every tick
unfoldable pub lapsed : Server → Entry → Entry
lapsed s e = pick (lapsesb s.kind e) (with_budget 0 e) e
