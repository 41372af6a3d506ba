-- How many words each thing takes: all that its layout says, where its arrays have all their entries, as every value that the code holds has. Assumes nothing.
use mathlib.Core.Path.{◌≡◌, refl}
use mathlib.Core.List.{List, [], ◌∷◌}
use Prim.Native.Nat.{ℕ, zero, suc, ◌+◌, ◌*◌, ◌<◌}
use native.Mathlib.Omega.{arith}
use lib.ListN.{length, drop, get_or, length-append}
use lib.Seq.{take-length}
use Rattle.small.proofs.All.{all_take, all_at}
use Rattle.small.specs.Small.{each, All}
use Rattle.small.proofs.Each.{Sizes, sizes_of, each_length}
use Rattle.queue.specs.Limits.{cell_count}
use Rattle.table.specs.Limits.{entries}
use Rattle.table.specs.Table.{zero_server}
use Rattle.table.specs.Meaning.{Sized}
use Rattle.table.specs.declared.Server.{Server}
use Rattle.table.specs.declared.Table.{Table}
use Rattle.state.specs.State.{zero_entry}
use Rattle.state.specs.Meaning.{SizedState}
use Rattle.state.specs.declared.Entry.{Entry}
use Rattle.state.specs.declared.State.{State}
use Rattle.port.specs.Layout.{queue_size, load_size, entry_size, task_size, server_size, table_size}
use Rattle.port.specs.Words.{word, many_in, cell_in, queue_in, load_in, entry_in, task_in, server_in, table_in, state_in}
use Rattle.port.specs.Words.{load_words, entry_words, task_words, server_words, table_words}
use Rattle.port.proofs.Many.{many_count}
use Rattle.port.proofs.Storing.{queue_length}

-- A THING WITH ALL THE ENTRIES OF ITS ARRAYS

pub record FullEntry (e : Entry) : Type 0 where
  pub loads : length e.loads ≡ entries
  pub cells : length e.arrivals.cells ≡ cell_count

pub record FullServer (s : Server) : Type 0 where
  pub tasks : length s.tasks ≡ entries

pub record FullTable (t : Table) : Type 0 where
  pub count : length t.servers ≡ entries
  pub servers : All FullServer t.servers

pub record FullState (s : State) : Type 0 where
  pub table : FullTable s.table
  pub cells : length s.refills.cells ≡ cell_count
  pub count : length s.entries ≡ entries
  pub entries : All FullEntry s.entries

-- A THING THAT IS READ IS FULL, whatever the words

many_all : {A : Type 0} (P : A → Type 0) (size : ℕ) (g : List ℕ → A) → ((ws : List ℕ) → P (g ws)) → (n : ℕ) (ws : List ℕ) → All P (many_in size g n ws)
many_all P size g h zero ws = tt
many_all P size g h (suc n) ws = (h ws, many_all P size g h n (drop size ws))

queue_in_full : (ws : List ℕ) → length (queue_in ws).cells ≡ cell_count
unfolding queue_in
queue_in_full ws = many_count 1 (λ (v : List ℕ). cell_in (word 0 v)) cell_count (drop 1 ws)

entry_in_full : (ws : List ℕ) → FullEntry (entry_in ws)
unfolding entry_in
entry_in_full ws = record { loads = many_count load_size load_in entries (drop 1 ws); cells = queue_in_full (drop (1 + load_size * entries) ws) }

server_in_full : (ws : List ℕ) → FullServer (server_in ws)
unfolding server_in
server_in_full ws = record { tasks = many_count task_size task_in entries (drop 4 ws) }

pub table_in_full : (ws : List ℕ) → FullTable (table_in ws)
unfolding table_in
table_in_full ws = record {
  count = many_count server_size server_in entries (drop 1 ws);
  servers = many_all FullServer server_size server_in server_in_full entries (drop 1 ws);
}

pub state_in_full : (ws : List ℕ) → FullState (state_in ws)
unfolding state_in
state_in_full ws = record {
  table = table_in_full ws;
  cells = queue_in_full (drop table_size ws);
  count = many_count entry_size entry_in entries (drop (table_size + queue_size) ws);
  entries = many_all FullEntry entry_size entry_in entry_in_full entries (drop (table_size + queue_size) ws);
}

-- THE SAME, PLACE BY PLACE

pub full_sized : (t : Table) → FullTable t → Sized t
full_sized t h = record { servers = h.count; tasks = λ i k. (all_at FullServer zero_server t.servers h.servers i (omega (arith, h.count))).tasks }

pub sized_full : (t : Table) → Sized t → FullTable t
sized_full t h =
    let each : (i : ℕ) → i < length t.servers → FullServer (get_or t.servers i zero_server) =
    λ i k. record { tasks = h.tasks i (omega (arith, h.servers)) } in
    record {
      count = h.servers;
      servers = rw take-length at (all_take FullServer zero_server t.servers (length t.servers) (omega arith) each);
    }

pub state_in_sized : (ws : List ℕ) → SizedState (state_in ws)
state_in_sized ws =
    let s = state_in ws in
    let f = state_in_full ws in
    record {
      table = full_sized s.table f.table;
      servers = f.count;
      loads = λ i h. (all_at FullEntry zero_entry s.entries f.entries i (omega (arith, f.count))).loads;
    }

-- ITS WORDS

pub loads_length : (e : Entry) → FullEntry e → length (each load_words e.loads) ≡ load_size * entries
loads_length e h = omega (arith, each_length load_words load_size e.loads (sizes_of load_words load_size (λ l. refl) e.loads), h.loads)

pub entry_length : (e : Entry) → FullEntry e → length (entry_words e) ≡ entry_size
unfolding entry_words
entry_length e h = simp length-append (omega (arith, loads_length e h, queue_length e.arrivals h.cells))

pub server_length : (s : Server) → FullServer s → length (server_words s) ≡ server_size
unfolding server_words
server_length s h = omega (arith, each_length task_words task_size s.tasks (sizes_of task_words task_size (λ t. refl) s.tasks), h.tasks)

pub servers_sizes : (ss : List Server) → All FullServer ss → Sizes server_words server_size ss
servers_sizes [] a = tt
servers_sizes (s ∷ ss) a = (server_length s a.0, servers_sizes ss a.1)

pub entries_sizes : (es : List Entry) → All FullEntry es → Sizes entry_words entry_size es
entries_sizes [] a = tt
entries_sizes (e ∷ es) a = (entry_length e a.0, entries_sizes es a.1)

pub table_length : (t : Table) → FullTable t → length (table_words t) ≡ table_size
unfolding table_words
table_length t h = omega (arith, each_length server_words server_size t.servers (servers_sizes t.servers h.servers), h.count)
