-- "eight server entries, each with eight task entries": a tick and an arrival keep them. Assumes nothing.
use mathlib.Core.Path.{◌≡◌, refl, ap, ◌∙◌}
use mathlib.Core.List.{List, [], ◌∷◌}
use Prim.Native.Nat.{ℕ, zero, suc}
use lib.ListN.{length, get_or}
use Rattle.small.specs.Small.{alter}
use Rattle.small.proofs.Altered.{alter_keeps, length_alter}
use Rattle.table.specs.declared.Server.{Server}
use Rattle.state.specs.State.{zero_entry, with_budget, server_at, entry_at, task_at, full_at}
use Rattle.state.specs.Choice.{first_pending, chosen_of}
use Rattle.state.specs.Meaning.{SizedState}
use Rattle.state.specs.declared.Load.{Load}
use Rattle.state.specs.declared.Entry.{Entry}
use Rattle.state.specs.declared.State.{State}
use Rattle.state.proofs.Lapsing.{lapsed_keeps}
use Rattle.scheduler.specs.Arrive.{load_after, with_arrival, with_loads, arrive_of}
use Rattle.scheduler.specs.Moves.{charged_entries, handled_entries}
use Rattle.scheduler.specs.Tick.{less_work, charge, due_in, refilled, arrived_loads, served4, each_entry, state_after}
use Rattle.scheduler.proofs.LapsedEntries.{lapsed_at, lapsed_length}
use Rattle.scheduler.proofs.Reached.{arrive_either}

-- how many loads the entry at a place has
abbrev load_count : List Entry → ℕ → ℕ
load_count es i = length (get_or es i zero_entry).loads

alter_count : (f : Entry → Entry) → ((e : Entry) → length (f e).loads ≡ length e.loads) → (es : List Entry) (k i : ℕ) → load_count (alter f es k) i ≡ load_count es i
alter_count f keeps es k i = alter_keeps f (λ (e : Entry). length e.loads) keeps es k i zero_entry

-- THE STEPS OF A TICK

pub charge_count : (e : Entry) → length (charge e).loads ≡ length e.loads
unfolding charge
charge_count e = length_alter less_work e.loads (first_pending e.loads)

refilled_length : (full : ℕ → ℕ) (ids : List ℕ) (es : List Entry) → length (refilled full ids es) ≡ length es
refilled_length full [] es = refl
refilled_length full (id ∷ ids) es = refilled_length full ids _ ∙ length_alter (with_budget (full id)) es id

refilled_count : (full : ℕ → ℕ) (ids : List ℕ) (es : List Entry) (i : ℕ) → load_count (refilled full ids es) i ≡ load_count es i
refilled_count full [] es i = refl
refilled_count full (id ∷ ids) es i = refilled_count full ids _ i ∙ alter_count (with_budget (full id)) (λ e. refl) es id i

arrived_count : (s : Server) (ids : List ℕ) (ls : List Load) → length (arrived_loads s ids ls) ≡ length ls
arrived_count s [] ls = refl
arrived_count s (id ∷ ids) ls = arrived_count s ids _ ∙ length_alter (load_after (task_at s id).work.0) ls id

pub served_length : (ss : List Server) (es : List Entry) → length (each_entry served4 ss es) ≡ length es
served_length [] es = refl
served_length (s ∷ ss) [] = refl
served_length (s ∷ ss) (e ∷ es) = ap suc (served_length ss es)

served_count : (ss : List Server) (es : List Entry) (i : ℕ) → load_count (each_entry served4 ss es) i ≡ load_count es i
unfolding served4
served_count [] es i = refl
served_count (s ∷ ss) [] i = refl
served_count (s ∷ ss) (e ∷ es) zero = arrived_count s (due_in e.arrivals) e.loads
served_count (s ∷ ss) (e ∷ es) (suc i) = served_count ss es i

module _ (s : State) where
  -- the entries before step 4
  pub before_length : length (refilled (full_at s) (due_in s.refills) (charged_entries s)) ≡ length s.entries
  before_length = refilled_length (full_at s) (due_in s.refills) (charged_entries s) ∙ length_alter charge s.entries (chosen_of s)

  pub tick_length : length (state_after s).entries ≡ length s.entries
  unfolding state_after
  tick_length = lapsed_length s.table.servers _ ∙ served_length s.table.servers _ ∙ before_length

  pub tick_loads : (i : ℕ) → length (entry_at (state_after s) i).loads ≡ length (entry_at s i).loads
  unfolding state_after
  tick_loads i =
      ap (λ (e : Entry). length e.loads) (lapsed_at s.table.servers (handled_entries s) i)
      ∙ lapsed_keeps (server_at s i) (get_or (handled_entries s) i zero_entry) (λ (e : Entry). length e.loads) refl
      ∙ served_count s.table.servers _ i
      ∙ refilled_count (full_at s) (due_in s.refills) (charged_entries s) i
      ∙ alter_count charge charge_count s.entries (chosen_of s) i

  pub tick_sized : SizedState s → SizedState (state_after s)
  unfolding state_after
  tick_sized z = record { table = z.table; servers = tick_length ∙ z.servers; loads = λ i h. tick_loads i ∙ z.loads i h }

-- AN ARRIVAL

pub arrive_sized : (s : State) (i j : ℕ) → SizedState s → SizedState (arrive_of s i j).state
arrive_sized s i j z =
    arrive_either s i j SizedState z λ a.
    record {
      table = z.table;
      servers = length_alter f s.entries i ∙ z.servers;
      loads = λ k h. alter_count f (λ e. length_alter (load_after E) e.loads j) s.entries i k ∙ z.loads k h;
    }
  where
    E : ℕ
    E = (task_at (server_at s i) j).work.0

    f : Entry → Entry
    f e = with_loads (with_arrival E j e.loads) e
