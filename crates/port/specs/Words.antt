-- What words hold, and the words of what is held. Words that are none of a value's are read as a value that no sound queue, table or state has: a filler of
-- gap 0, work that no load has, a kind that there is not, a period of 0.
use Rattle.std.specs.Prelude.{List, [], ◌∷◌, ◌++◌, ℕ, zero, suc, ◌+◌, ◌*◌, ◌/◌, ◌%◌, ◌<◌, ltb, eqb, drop, get_or}
use Rattle.small.specs.Small.{pick, both, each, All}
use Rattle.queue.specs.Limits.{cell_count, filler}
use Rattle.queue.specs.Row.{Event, cell}
use Rattle.queue.specs.declared.Cell.{Cell}
use Rattle.queue.specs.declared.Queue.{Queue}
use Rattle.table.specs.Limits.{entries}
use Rattle.table.specs.Table.{ticks, served, release_number, period_of, offset_of}
use Rattle.table.specs.declared.Release.{Release}
use Rattle.table.specs.declared.Release.TheVariants.{OnArrival, Periodic}
use Rattle.table.specs.declared.Task.{Task}
use Rattle.table.specs.declared.Server.{Server}
use Rattle.table.specs.declared.Table.{Table}
use Rattle.state.specs.State.{load}
use Rattle.state.specs.declared.Load.{Load}
use Rattle.state.specs.declared.Entry.{Entry}
use Rattle.state.specs.declared.State.{State}
use Rattle.port.specs.Layout.{word_limit, queue_size, load_size, entry_size, task_size, server_size, table_size}

-- the word at a place; 0 past the end
abbrev pub word : ℕ → List ℕ → ℕ
word k ws = get_or ws k 0

-- n things of so many words each, one behind the other
abbrev pub many_in : {A : Type 0} → ℕ → (List ℕ → A) → ℕ → List ℕ → List A
many_in size f zero ws = []
many_in size f (suc n) ws = f ws ∷ many_in size f n (drop size ws)

-- QUEUES: the number of cells, then each cell: its id times 65,536, and its gap

unfoldable pub cell_in : ℕ → Cell
cell_in w = pick (ltb 16777215 w) (cell filler 0) (cell (w / 65536) (w % 65536))

abbrev pub cell_word : Cell → ℕ
cell_word c = c.id * 65536 + c.gap

unfoldable pub queue_in : List ℕ → Queue
queue_in ws = record { cells = many_in 1 (λ v. cell_in (word 0 v)) cell_count (drop 1 ws); len = word 0 ws }

unfoldable pub queue_words : Queue → List ℕ
queue_words q = q.len ∷ each (λ c. cell_word c ∷ []) q.cells

-- an event whose id is a byte, as that of every event that words hold is
abbrev pub ByteEvent : Event → Type 0
ByteEvent e = e.id < 256

-- ENTRIES: the budget, then each task's pending work and lost count, then the queue of arrivals

unfoldable pub load_in : List ℕ → Load
load_in ws = pick (ltb 65535 (word 1 ws)) (load 4294967295 0) (load (word 0 ws) (word 1 ws))

abbrev pub load_words : Load → List ℕ
load_words l = l.pending.0 ∷ l.lost ∷ []

unfoldable pub entry_in : List ℕ → Entry
entry_in ws = record {
  loads = many_in load_size load_in entries (drop 1 ws);
  arrivals = queue_in (drop (1 + load_size * entries) ws);
  budget = served (word 0 ws);
}

unfoldable pub entry_words : Entry → List ℕ
entry_words e = e.budget.0 ∷ (each load_words e.loads ++ queue_words e.arrivals)

-- TABLES: the number of servers, then each server: its kind, the number of its tasks, P, C, then each task: its release, E, T, O

unfoldable pub release_in : ℕ → ℕ → ℕ → Release
release_in r t o =
    pick (eqb r 1) (Periodic (ticks t) (ticks o))
    (pick (both (eqb r 0) (both (eqb t 0) (eqb o 0))) OnArrival (Periodic (ticks 0) (ticks 0)))

unfoldable pub task_in : List ℕ → Task
task_in ws = record { work = served (word 1 ws); release = release_in (word 0 ws) (word 2 ws) (word 3 ws) }

abbrev pub task_words : Task → List ℕ
task_words t = release_number t.release ∷ t.work.0 ∷ period_of t.release ∷ offset_of t.release ∷ []

abbrev pub kind_in : ℕ → ℕ
kind_in w = pick (ltb 255 w) 255 w

unfoldable pub server_in : List ℕ → Server
server_in ws = record {
  tasks = many_in task_size task_in entries (drop 4 ws);
  count = word 1 ws;
  kind = kind_in (word 0 ws);
  period = ticks (word 2 ws);
  budget = served (word 3 ws);
}

unfoldable pub server_words : Server → List ℕ
server_words s = s.kind ∷ s.count ∷ s.period.0 ∷ s.budget.0 ∷ each task_words s.tasks

unfoldable pub table_in : List ℕ → Table
table_in ws = record { servers = many_in server_size server_in entries (drop 1 ws); count = word 0 ws }

unfoldable pub table_words : Table → List ℕ
table_words t = t.count ∷ each server_words t.servers

-- STATES: the table, the queue of replenishments, the entries

unfoldable pub state_in : List ℕ → State
state_in ws = record {
  entries = many_in entry_size entry_in entries (drop (table_size + queue_size) ws);
  table = table_in ws;
  refills = queue_in (drop table_size ws);
}

unfoldable pub state_words : State → List ℕ
state_words s = table_words s.table ++ (queue_words s.refills ++ each entry_words s.entries)

-- WHAT FITS: the counts of a thing, each below what a word can hold, as those of every sound thing are

abbrev pub QueueFits : Queue → Type 0
QueueFits q = q.len < word_limit

abbrev pub EntryFits : Entry → Type 0
EntryFits e = QueueFits e.arrivals

abbrev pub ServerFits : Server → Type 0
ServerFits s = s.count < word_limit

pub record TableFits (t : Table) : Type 0 where
  pub count : t.count < word_limit
  pub servers : All ServerFits t.servers

pub record StateFits (s : State) : Type 0 where
  pub table : TableFits s.table
  pub refills : QueueFits s.refills
  pub entries : All EntryFits s.entries
