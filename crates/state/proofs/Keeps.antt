-- THE FRESH STATE OF A SOUND TABLE IS SOUND. No array's length is assumed. Assumes nothing.
use mathlib.Core.Path.{◌≡◌, refl}
use mathlib.Core.Bool.{true}
use Rattle.queue.specs.Limits.{longest}
use Rattle.table.specs.Limits.{most_work}
use Rattle.table.specs.Table.{zero_server}
use Rattle.table.specs.Sound.{tableb}
use Rattle.table.specs.declared.Table.{Table}
use Rattle.state.specs.Sound.{server_reaches, stateb}
use Rattle.state.specs.Fresh.{server_away, fresh_queue, fresh_state}
use Rattle.state.proofs.Stated.{state_parts}
use Rattle.state.proofs.HeldEach.{held_each}
use Rattle.state.proofs.Delays.{table_every, server_delayed}
use Rattle.state.proofs.FreshSound.{fresh_held, entries_sound, fresh_spent, refill_near}

module _ (t : Table) (h : tableb longest most_work t ≡ true) where
  pub fresh_sound : stateb (fresh_state t) ≡ true
  unfolding fresh_state
  fresh_sound =
      (state_parts (fresh_state t)).1 record {
        table = h;
        entries = entries_sound t.servers (table_every t h);
        refills =
            (held_each (server_reaches t.servers) (fresh_queue server_away t.servers)).1
            (fresh_held server_away zero_server t.servers (server_reaches t.servers) refl (server_delayed t h) (refill_near t));
        spent = fresh_spent t.servers;
      }
