-- A task of a sound state, for an arrival at it; and the state behind an arrival, accepted or refused. Assumes nothing.
use mathlib.Core.Path.{◌≡◌, refl}
use mathlib.Core.Bool.{true, Bool, false}
use mathlib.Core.List.{List}
use Prim.Native.Nat.{ℕ, ◌≤◌, ◌<◌}
use native.Mathlib.Omega.{arith}
use lib.ListN.{length, get_or, set}
use lib.Dec.{eqb}
use borrow.Author.Tests.{eqb-true, eqb-false}
use Rattle.small.specs.Small.{alter}
use Rattle.small.proofs.Altered.{set_alter}
use Rattle.small.proofs.Lists.{get_or_inside}
use Rattle.table.specs.Limits.{most_work, entries}
use Rattle.table.specs.Table.{zero_server}
use Rattle.table.proofs.Sizes.{past_server}
use Rattle.state.proofs.Sizes.{past_entry}
use Rattle.state.specs.State.{most_pending, zero_load, zero_entry, server_at, entry_at, task_at}
use Rattle.state.specs.Sound.{stateb}
use Rattle.state.specs.declared.Entry.{Entry}
use Rattle.state.specs.declared.State.{State}
use Rattle.state.proofs.Stated.{Eight, stated, entry_stated, server_stated, loads_below, below_at, work_below}
use Rattle.scheduler.specs.Arrive.{load_after, with_arrival, with_loads, arrived_state, arrive_of}
use Rattle.scheduler.proofs.Answers.{arrive_done}
use Rattle.scheduler.proofs.Unchanged.{arrive_unchanged}

-- its places are entries, and its work and what is pending are in range
pub record Reached (s : State) (i j : ℕ) : Type 0 where
  pub server : i < entries
  pub task : j < entries
  pub pending : (get_or (entry_at s i).loads j zero_load).pending.0 ≤ most_pending
  pub work : (task_at (server_at s i) j).work.0 ≤ most_work

pub reached : (s : State) (i j : ℕ) → Eight s → stateb s ≡ true → i < s.table.count → j < (server_at s i).count → Reached s i j
reached s i j z h k l =
    let w = (stated s z).0 h in
    let few = w.servers.count in
    let v = server_stated (server_at s i) (w.servers.used i k) in
    let e = (entry_stated (server_at s i) (entry_at s i)).0 (w.entry i (omega arith)) in
    record {
      server = omega arith;
      task = omega (arith, v.count);
      pending = below_at (entry_at s i).loads (loads_below (entry_at s i).loads (server_at s i).count e.loads) j;
      work = work_below (server_at s i).tasks (server_at s i).count v.tasks j;
    }

-- and what the code reads of the state's arrays is what the definitions read
module _ (s : State) (i : ℕ) (z : Eight s) where
  pub server_read : i < entries → get_or s.table.servers i past_server ≡ server_at s i
  server_read h = get_or_inside s.table.servers i past_server zero_server (omega (arith, z.servers))

  pub entry_read : i < entries → get_or s.entries i past_entry ≡ entry_at s i
  entry_read h = get_or_inside s.entries i past_entry zero_entry (omega (arith, z.entries))

  -- a server of the table is one of the eight
  pub server_there : stateb s ≡ true → i < s.table.count → i < entries
  server_there h k = let few = ((stated s z).0 h).servers.count in omega arith

-- the code's two stores, of the load and of its entry, are the arrival; z is what an entry past the end would be
pub arrival_stored : (es : List Entry) (i j E : ℕ) (z : Entry) → let e = get_or es i z in i < length es → j < length e.loads
    → set es i (with_loads (set e.loads j (load_after E (get_or e.loads j zero_load))) e) ≡ alter (λ (e : Entry). with_loads (with_arrival E j e.loads) e) es i
arrival_stored es i j E z h l =
    let e = get_or es i z in
    rw (set_alter (load_after E) e.loads j zero_load l) (set_alter (λ (e : Entry). with_loads (with_arrival E j e.loads) e) es i z h)

module _ (s : State) (i j : ℕ) where
  -- what holds of the state as it was, and with the arrival, holds of the state behind the call
  pub arrive_either : (P : State → Type 0) → P s → ((arrive_of s i j).refusal.number ≡ 0 → P (arrived_state s i j)) → P (arrive_of s i j).state
  arrive_either P kept next = go (eqb (arrive_of s i j).refusal.number 0) refl
    where
      go : (b : Bool) → eqb (arrive_of s i j).refusal.number 0 ≡ b → P (arrive_of s i j).state
      go true e = let a = eqb-true (arrive_of s i j).refusal.number 0 e in rw (arrive_done s i j a) (next a)
      go false e = rw (arrive_unchanged s i j (eqb-false (arrive_of s i j).refusal.number 0 e)).0 kept
