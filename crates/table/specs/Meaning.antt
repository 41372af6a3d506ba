-- "A table alone is sound if its values are in range and its unused entries zero": the document's words, place by place. D is the longest period and offset,
-- W the most work. `table_sound` (proofs/Soundness.antt) says that the test `tableb` holds exactly of the tables that are sound in these words.
use Rattle.std.specs.Prelude.{◌≡◌, ◌⊎◌, ℕ, ◌≤◌, ◌<◌, length, get_or}
use Rattle.queue.specs.declared.Distance.{Distance}
use Rattle.table.specs.Kind.{idling_kind, deferrable_kind, polling_kind}
use Rattle.table.specs.Limits.{entries}
use Rattle.table.specs.Table.{zero_task, zero_server}
use Rattle.table.specs.declared.Release.{Release}
use Rattle.table.specs.declared.Release.TheVariants.{OnArrival, Periodic}
use Rattle.table.specs.declared.Task.{Task}
use Rattle.table.specs.declared.Server.{Server}
use Rattle.table.specs.declared.Table.{Table}

-- least to most
pub record Within (least most x : ℕ) : Type 0 where
  pub low : least ≤ x
  pub high : x ≤ most

-- "T is 1 to 1,000,000, O is 0 to 1,000,000"
pub record SoundTimes (D : ℕ) (T O : Distance) : Type 0 where
  pub period : Within 1 D T.0
  pub offset : O.0 ≤ D

-- "either periodic, with a period T and an offset O, or on arrival with neither"
abbrev pub SoundRelease : ℕ → Release → Type 0
SoundRelease D OnArrival = Unit
SoundRelease D (Periodic T O) = SoundTimes D T O

-- "A task has work E (1 to 1,000,000 ticks)"
pub record SoundTask (D W : ℕ) (t : Task) : Type 0 where
  pub work : Within 1 W t.work.0
  pub release : SoundRelease D t.release

-- "idling (kind 1), or deferrable (kind 2)"; kind 3 is polling: "Setup code 6 now allows 3." (document 02, #101)
abbrev pub KnownKind : ℕ → Type 0
KnownKind k = (k ≡ idling_kind) ⊎ ((k ≡ deferrable_kind) ⊎ (k ≡ polling_kind))

-- "A server has a kind, a period P (1 to 1,000,000), a budget C (1 to P) and 0 to 8 tasks"
pub record SoundServer (D W : ℕ) (s : Server) : Type 0 where
  pub kind : KnownKind s.kind
  pub period : Within 1 D s.period.0
  pub budget : Within 1 s.period.0 s.budget.0
  pub count : s.count ≤ entries
  pub used : (j : ℕ) → j < s.count → SoundTask D W (get_or s.tasks j zero_task)
  pub unused : (j : ℕ) → s.count ≤ j → j < length s.tasks → get_or s.tasks j zero_task ≡ zero_task

-- "A setup has 1 to 8 servers"
pub record SoundTable (D W : ℕ) (t : Table) : Type 0 where
  pub count : Within 1 entries t.count
  pub used : (i : ℕ) → i < t.count → SoundServer D W (get_or t.servers i zero_server)
  pub unused : (i : ℕ) → t.count ≤ i → i < length t.servers → get_or t.servers i zero_server ≡ zero_server

-- "eight server entries, each with eight task entries": every table of the code has them; an array of a struct is a bare list here
pub record Sized (t : Table) : Type 0 where
  pub servers : length t.servers ≡ entries
  pub tasks : (i : ℕ) → i < entries → length (get_or t.servers i zero_server).tasks ≡ entries
