-- "eight server entries, each with eight task entries": a fresh state has them. Assumes nothing.
use mathlib.Core.Path.{◌≡◌, refl, ap, ◌∙◌}
use mathlib.Core.List.{List, [], ◌∷◌}
use Prim.Native.Nat.{ℕ, zero, suc}
use lib.ListN.{length, get_or}
use Rattle.table.specs.Table.{zero_server}
use Rattle.table.specs.Meaning.{Sized}
use Rattle.table.specs.declared.Task.{Task}
use Rattle.table.specs.declared.Server.{Server}
use Rattle.table.specs.declared.Table.{Table}
use Rattle.state.specs.State.{zero_entry}
use Rattle.state.specs.Fresh.{fresh_loads, filled_entry, fresh_entry, fresh_entries, fresh_state}
use Rattle.state.specs.Meaning.{SizedState}
use Rattle.state.specs.declared.Entry.{Entry}
use Rattle.state.proofs.Lapsing.{lapsed_keeps}

loads_length : (ts : List Task) → length (fresh_loads ts) ≡ length ts
loads_length [] = refl
loads_length (t ∷ ts) = ap suc (loads_length ts)

entries_length : (ss : List Server) → length (fresh_entries ss) ≡ length ss
entries_length [] = refl
entries_length (s ∷ ss) = ap suc (entries_length ss)

entries_count : (ss : List Server) (i : ℕ) → length (get_or (fresh_entries ss) i zero_entry).loads ≡ length (get_or ss i zero_server).tasks
unfolding fresh_entry
entries_count [] i = refl
entries_count (s ∷ ss) zero = lapsed_keeps s (filled_entry s) (λ (e : Entry). length e.loads) refl ∙ loads_length s.tasks
entries_count (s ∷ ss) (suc i) = entries_count ss i

pub fresh_sized : (t : Table) → Sized t → SizedState (fresh_state t)
unfolding fresh_state
fresh_sized t z =
    record {
      table = z;
      servers = entries_length t.servers ∙ z.servers;
      loads = λ i h. entries_count t.servers i ∙ z.tasks i h;
    }
