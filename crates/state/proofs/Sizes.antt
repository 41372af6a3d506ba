-- The lengths of the loads in an array of entries, of which every state that the code holds is sure. Assumes nothing.
use mathlib.Core.Path.{◌≡◌}
use mathlib.Core.List.{List, [], ◌∷◌}
use Prim.Native.Nat.{ℕ, zero, suc, ◌<◌}
use native.Mathlib.Omega.{arith}
use lib.ListN.{length, get_or}
use mir.Val.{Val}
use denote.Array.{each}
use denote.Shadow.{shadow}
use Rattle.table.specs.Limits.{entries}
use Rattle.table.specs.Table.{served}
use Rattle.state.specs.declared.Entry.{Entry}
use Rattle.state.specs.contracts.Entry as entry

-- what the code's read of an entry would give past the end of the array
abbrev pub past_entry : Entry
past_entry = record { loads = []; arrivals = record { cells = []; len = 0 }; budget = served 0 }

pub loads_full : (es : List Entry) (us : List Val) (i : ℕ) (z : Entry) → i < length es → shadow (each (entry.the_row).Denot (entry.the_row).own_val es us) → length (get_or es i z).loads ≡ entries
loads_full [] us i z h k = absurd (omega arith)
loads_full (e ∷ es) [] i z h k = absurd k
loads_full (e ∷ es) (u ∷ us) zero z h k = k.0.1.1.0.1.0.1
loads_full (e ∷ es) (u ∷ us) (suc i) z h k = loads_full es us i z (omega arith) k.1
