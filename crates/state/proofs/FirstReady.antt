-- What is known of the server that a tick chooses and of the task that it runs: they are in use, and the first that are ready. Assumes nothing.
use mathlib.Core.Path.{◌≡◌, refl, ap}
use mathlib.Core.Bool.{Bool, true, false}
use mathlib.Core.List.{List}
use Prim.Native.Nat.{ℕ, ◌<◌}
use native.Mathlib.Omega.{arith}
use lib.Dec.{ltb, eqb}
use lib.ListN.{length, get_or}
use borrow.Author.Tests.{eqb-true}
use Rattle.small.specs.Small.{pick, both}
use Rattle.small.proofs.Tests.{both_left, both_false, contrary}
use Rattle.small.proofs.Used.{in_use}
use Rattle.queue.specs.Limits.{longest}
use Rattle.table.specs.Kind.{idling_kind}
use Rattle.table.specs.Limits.{entries, most_work}
use Rattle.table.specs.Table.{zero_server}
use Rattle.table.specs.Sound.{serverb, zero_serverb}
use Rattle.state.specs.State.{zero_load, zero_entry, server_at, entry_at}
use Rattle.state.specs.Sound.{loadb, zero_loadb, stateb}
use Rattle.state.specs.Choice.{some_pending, wantsb, chosen_of, worksb}
use Rattle.state.specs.Meaning.{SizedState, ready_at, pending_at, Highest}
use Rattle.state.specs.declared.Load.{Load}
use Rattle.state.specs.declared.Entry.{Entry}
use Rattle.state.specs.declared.State.{State}
use Rattle.state.proofs.Stated.{Stated, stated, entry_stated}
use Rattle.state.proofs.Choosing.{FirstOf, first_ready}
use Rattle.state.proofs.Delays.{table_used}

-- a server that wants the tick with no work pending is idling
pub wants_idling : (kind : ℕ) (e : Entry) → some_pending e.loads ≡ false → wantsb kind e ≡ true → kind ≡ idling_kind
unfolding wantsb
wants_idling kind e n w = go (eqb kind idling_kind) refl (rw n at w)
  where
    go : (b : Bool) → eqb kind idling_kind ≡ b → pick b true (both (worksb kind) false) ≡ true → kind ≡ idling_kind
    go true p r = eqb-true kind 1 p
    go false p r = contrary r (both_false (worksb kind))

-- one of no kind never does
rests : (kind : ℕ) (e : Entry) → kind ≡ 0 → wantsb kind e ≡ false
unfolding wantsb
rests kind e k = rw k

module _ (s : State) (z : SizedState s) (h : stateb s ≡ true) where
  pub parts : Stated s
  parts = (stated s record { servers = z.table.servers; entries = z.servers }).0 h

  -- a server that is ready is in use
  pub ready_used : (i : ℕ) → ready_at s i ≡ true → i < s.table.count
  ready_used i r = (in_use (serverb longest most_work) zero_serverb zero_server refl s.table.servers s.table.count i (table_used s.table parts.table) unready).0
    where
      unready : zero_serverb (server_at s i) ≡ true → ⊥
      unready x = contrary (both_left _ _ r) (rests (server_at s i).kind (entry_at s i) (eqb-true (server_at s i).kind 0 (both_left _ _ x)))

  -- and so is a task with work pending
  pub pending_used : (k j : ℕ) → k < entries → pending_at s k j ≡ true → j < (server_at s k).count
  pending_used k j l r = (in_use loadb zero_loadb zero_load refl ls (server_at s k).count j ((entry_stated (server_at s k) (entry_at s k)).0 (parts.entry k l)).loads unloaded).0
    where
      ls : List Load
      ls = (entry_at s k).loads

      unloaded : zero_loadb (get_or ls j zero_load) ≡ true → ⊥
      unloaded x = contrary r (ap (ltb 0) (eqb-true (get_or ls j zero_load).pending.0 0 (both_left _ _ x)))

  pub chosen : FirstOf (ready_at s) (length s.table.servers) (chosen_of s)
  unfolding chosen_of
  chosen = first_ready s.table.servers s.entries (omega (arith, z.table.servers, z.servers)) zero_server zero_entry

  pub highest : chosen_of s < entries → Highest s (chosen_of s)
  highest l =
      let r : ready_at s (chosen_of s) ≡ true = chosen.here (omega (arith, z.table.servers)) in
      record { used = ready_used (chosen_of s) r; ready = r; above = chosen.above }
