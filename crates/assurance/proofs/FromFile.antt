-- Demand 3 from the bytes of a setup on: what the reader accepts is a sound table with its eight entries of eight. Assumes nothing.
use mathlib.Core.Path.{◌≡◌, ap}
use mathlib.Core.List.{List}
use Prim.Native.Nat.{ℕ, ◌<◌}
use lib.ListN.{length}
use Rattle.queue.specs.Limits.{longest}
use Rattle.table.specs.Limits.{most_work}
use Rattle.setup.specs.Read.{read_of}
use Rattle.setup.proofs.RoundTrip.{accepted_sound}
use Rattle.state.specs.Fresh.{fresh_of}
use Rattle.state.specs.Fresh.{Made}
use Rattle.state.proofs.Laws.{fresh_made}
use Rattle.assurance.specs.History.{Call, ticks_of, ticks_asked}
use Rattle.assurance.specs.Demand3.{Demand3}
use Rattle.assurance.proofs.Assured.{demand_3, all_ticks}

-- of every file that the reader accepts, every list of calls, every server in use and each of its periods
pub demand_3_file : (file : List ℕ) → let r = read_of longest most_work file in
    r.refusal.number ≡ 0 → (calls : List Call) (i : ℕ) → i < r.table.count → (k : ℕ) → Demand3 r.table calls i k
demand_3_file file a = let h = accepted_sound longest most_work file a in demand_3 (read_of longest most_work file).table h.0 h.1

-- its fresh state is made, and no tick from there on is refused

pub fresh_file : (file : List ℕ) → let r = read_of longest most_work file in
    r.refusal.number ≡ 0 → (fresh_of r.table).refusal.number ≡ 0
fresh_file file a = ap (λ (m : Made). m.refusal.number) (fresh_made (read_of longest most_work file).table (accepted_sound longest most_work file a).0)

pub all_ticks_file : (file : List ℕ) → let r = read_of longest most_work file in
    r.refusal.number ≡ 0 → (calls : List Call) → length (ticks_of (fresh_of r.table).state calls) ≡ ticks_asked calls
all_ticks_file file a = let h = accepted_sound longest most_work file a in all_ticks (read_of longest most_work file).table h.0 h.1
