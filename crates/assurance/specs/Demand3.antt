-- Demand 3, over histories of the scheduler's own calls (History.antt). What is quoted is document 01's, document 02's where it is named, or the demand's own
-- words. Nothing here is proved; proofs/Assured.antt proves it of every sound table, proofs/FromFile.antt of every setup file that is accepted.
use Rattle.std.specs.Prelude.{◌≡◌, Bool, not, List, ◌∷◌, map, ◌≢◌, ℕ, ◌+◌, ◌-◌, ◌*◌, ◌/◌, ◌≤◌, min, ltb, length, take, drop}
use Rattle.small.specs.Small.{both, sum_below, tally}
use Rattle.table.specs.Kind.{polling_kind}
use Rattle.table.specs.Table.{kind_in, period_in, budget_in}
use Rattle.table.specs.declared.Table.{Table}
use Rattle.state.specs.State.{server_at, entry_at}
use Rattle.state.specs.Choice.{some_pending, wantsb, servesb}
use Rattle.state.specs.Fresh.{fresh_of}
use Rattle.state.specs.Meaning.{budget_at}
use Rattle.state.specs.declared.State.{State}
use Rattle.assurance.specs.History.{Call, Seen, history_of, tick_end, end_before}

-- W

-- a / b, rounded up
unfoldable pub ceil : ℕ → ℕ → ℕ
ceil a b = (a + (b - 1)) / b

-- "With P its own period and Cj, Pj those of a server above, W is the sum of Cj × (1 + (P − 1) / Pj rounded up)"
unfoldable pub most_held : Table → ℕ → ℕ
most_held t i = sum_below (λ j. budget_in t j * (1 + ceil (period_in t i - 1) (period_in t j))) i

-- "the smaller of its budget and its period less W"; "where W is P or more, the least amount says nothing"
unfoldable pub sure : Table → ℕ → ℕ
sure t i = min (budget_in t i) (period_in t i - most_held t i)

-- PERIODS

-- "A server's period k is ticks kP to kP + P − 1", of a history "from a fresh setup". The last one may be cut short where the history ends.
unfoldable pub period_ticks : Table → List Call → ℕ → ℕ → List Seen
period_ticks t cs i k = take (period_in t i) (drop (k * period_in t i) (history_of t cs))

-- "at the end of the tick before the period (in the fresh state, for a period that begins at tick 0) and at the end of each of its ticks but the last"
-- (document 02, #101)
unfoldable pub period_ends : Table → List Call → ℕ → ℕ → List State
period_ends t cs i k =
    let s = (fresh_of t).state in
    end_before s (history_of t cs) (k * period_in t i) ∷ map tick_end (take (period_in t i - 1) (period_ticks t cs i k))

-- COUNTING

abbrev pub funded_at : State → ℕ → Bool
funded_at s i = ltb 0 (budget_at s i)

abbrev pub wants_at : State → ℕ → Bool
wants_at s i = wantsb (server_at s i).kind (entry_at s i)

-- "A server runs on the ticks that choose it, burned ones included."
abbrev pub runs : ℕ → Seen → Bool
runs i x = servesb x.choice i

-- "it has budget, wants the processor and doesn't run"
abbrev pub held_off : ℕ → Seen → Bool
held_off i x = both (both (wants_at x.state i) (funded_at x.state i)) (not (runs i x))

-- it has budget, and does not want the tick
abbrev pub declines : ℕ → Seen → Bool
declines i x = both (funded_at x.state i) (not (wants_at x.state i))

-- no work of server i is pending
abbrev pub workless : ℕ → State → Bool
workless i s = not (some_pending (entry_at s i).loads)

-- THE DEMAND, of server i in its period k, over any calls from a fresh setup
pub record Demand3 (t : Table) (calls : List Call) (i k : ℕ) : Type 0 where
  -- "in each of its own periods a server runs, ticks idled away included, at most its budget"
  pub most : tally (runs i) (period_ticks t calls i k) ≤ budget_in t i
  -- "In each, the ticks on which it has budget, wants the processor and doesn't run are at most W"
  pub held : tally (held_off i) (period_ticks t calls i k) ≤ most_held t i
  -- "If in a whole period it wants every tick on which it has budget, it runs at least the smaller of its budget and its period less W.": a server that is not
  -- polling
  pub least : kind_in t i ≢ polling_kind
      → length (period_ticks t calls i k) ≡ period_in t i
      → tally (declines i) (period_ticks t calls i k) ≡ 0
      → sure t i ≤ tally (runs i) (period_ticks t calls i k)
  -- "it holds for kind 3 if work is pending at the end of the tick before the period (in the fresh state, for a period that begins at tick 0) and at the end
  -- of each of its ticks but the last" (document 02, #101)
  pub least_polling : kind_in t i ≡ polling_kind
      → length (period_ticks t calls i k) ≡ period_in t i
      → tally (workless i) (period_ends t calls i k) ≡ 0
      → sure t i ≤ tally (runs i) (period_ticks t calls i k)
