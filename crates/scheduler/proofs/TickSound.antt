-- Why a sound state stays sound under a tick and an arrival (Keeps says that it does): each load, each entry, the queues, and room for every event that is due. No
-- array's length is assumed. Assumes nothing.
use mathlib.Core.Path.{◌≡◌, refl, sym, ◌∙◌}
use mathlib.Core.Bool.{Bool, true, false}
use mathlib.Core.List.{List, [], ◌∷◌}
use Prim.Native.Nat.{ℕ, ◌+◌, ◌-◌, ◌≤◌, ◌<◌}
use native.Mathlib.Omega.{arith}
use lib.Dec.{leb, ltb, eqb}
use lib.ListN.{get_or}
use borrow.Author.Tests.{ltb-true, leb-true, le-leb, eq-eqb, eqb-true}
use Rattle.small.specs.Small.{pick, usedb}
use Rattle.small.proofs.Tests.{both_left, both_right}
use Rattle.small.proofs.Used.{used_any, used_one}
use Rattle.refusal.specs.Refusal.{none}
use Rattle.queue.specs.Meaning.{there}
use Rattle.table.specs.Table.{zero_server}
use Rattle.table.specs.declared.Server.{Server}
use Rattle.state.specs.State.{most_pending, most_lost, load, with_budget, server_at, task_at, task_delay, period_at, full_at}
use Rattle.state.specs.Sound.{task_reaches, server_reaches, loadb, zero_loadb, entryb, entriesb, stateb}
use Rattle.state.specs.Choice.{first_pending, chosen_of, choice_of}
use Rattle.state.specs.declared.Load.{Load}
use Rattle.state.specs.declared.Entry.{Entry}
use Rattle.state.specs.declared.State.{State}
use Rattle.state.proofs.Stated.{EntryStated, entry_stated, ServerStated, Parts, state_parts, paired_one}
use Rattle.state.proofs.HeldEach.{HeldEach, held_each, held_reached}
use Rattle.state.proofs.Delays.{task_delayed, Every, table_every, server_delayed}
use Rattle.scheduler.specs.Arrive.{fitsb, lost_after, load_after, with_arrival, with_loads}
use Rattle.scheduler.specs.Moves.{charged_entries}
use Rattle.scheduler.specs.Tick.{less_work, charge, due_in, room_of, refilled, arrived_loads, arrivals_turn, served4, each_entry, all_roomb, state_after, handled_of, againb, ticked_with, tick_of}
use Rattle.scheduler.proofs.Refusals.{tick_accepted}
use Rattle.scheduler.proofs.Answers.{tick_done}
use Rattle.scheduler.proofs.AgainLaws.{inb, held_accepted, held_again, held_due}

-- LOADS

less_load : (l : Load) → loadb l ≡ true → loadb (less_work l) ≡ true
less_load l h =
    let p : l.pending.0 ≤ most_pending = leb-true _ most_pending (both_left _ _ h) in
    rw (le-leb (l.pending.0 - 1) most_pending (omega arith)) (both_right (leb l.pending.0 most_pending) _ h)

less_zero : (l : Load) → zero_loadb l ≡ true → zero_loadb (less_work l) ≡ true
less_zero l h =
    let p : l.pending.0 ≡ 0 = eqb-true _ 0 (both_left _ _ h) in
    rw (eq-eqb (l.pending.0 - 1) 0 (omega arith)) (both_right (eqb l.pending.0 0) _ h)

-- "which stops at 65,535"
lost_stops : (n : ℕ) → n ≤ most_lost → lost_after n ≤ most_lost
lost_stops n h = go (ltb n most_lost) refl
  where
    go : (b : Bool) → ltb n most_lost ≡ b → pick b (n + 1) n ≤ most_lost
    go true p = omega (arith, ltb-true n most_lost p)
    go false p = h

arrival_load : (E : ℕ) (l : Load) → loadb l ≡ true → loadb (load_after E l) ≡ true
unfolding load_after
arrival_load E l h = go (fitsb E l) refl
  where
    lost : leb l.lost most_lost ≡ true
    lost = both_right (leb l.pending.0 most_pending) _ h

    go : (b : Bool) → fitsb E l ≡ b → loadb (pick b (load (l.pending.0 + E) l.lost) (load l.pending.0 (lost_after l.lost))) ≡ true
    go true p = rw (p, lost)
    go false p = rw (both_left (leb l.pending.0 most_pending) _ h, le-leb (lost_after l.lost) most_lost (lost_stops l.lost (leb-true l.lost most_lost lost)))

-- arrivals of tasks in use
arrived_used : (s : Server) (n : ℕ) (ids : List ℕ) (ls : List Load) → ((j : ℕ) → inb j ids ≡ true → j < n)
    → usedb loadb zero_loadb ls n ≡ true → usedb loadb zero_loadb (arrived_loads s ids ls) n ≡ true
arrived_used s n [] ls u h = h
arrived_used s n (id ∷ ids) ls u h =
    arrived_used s n ids _ rest (used_one (load_after (task_at s id).work.0) loadb zero_loadb (arrival_load (task_at s id).work.0) ls n id (u id (rw (eq-eqb id id refl))) h)
  where
    rest : (j : ℕ) → inb j ids ≡ true → j < n
    rest j k = u j (go (eqb id j))
      where
        go : (b : Bool) → pick b true (inb j ids) ≡ true
        go true = refl
        go false = k

-- ONE SERVER'S ENTRY

pub charge_sound : (s : Server) (e : Entry) → entryb s e ≡ true → entryb s (charge e) ≡ true
unfolding charge
charge_sound s e h =
    let p = (entry_stated s e).0 h in
    (entry_stated s (charge e)).1 record {
      budget = omega (arith, p.budget);
      loads = used_any less_work loadb zero_loadb less_load less_zero e.loads s.count (first_pending e.loads) p.loads;
      arrivals = p.arrivals;
    }

pub fill_sound : (s : Server) (e : Entry) → entryb s e ≡ true → entryb s (with_budget s.budget.0 e) ≡ true
fill_sound s e h =
    let p = (entry_stated s e).0 h in
    (entry_stated s (with_budget s.budget.0 e)).1 record { budget = omega arith; loads = p.loads; arrivals = p.arrivals }

-- an arrival of a task in use
pub load_sound_lem : (s : Server) (E j : ℕ) → j < s.count → (e : Entry) → entryb s e ≡ true → entryb s (with_loads (with_arrival E j e.loads) e) ≡ true
load_sound_lem s E j l e h =
    let p = (entry_stated s e).0 h in
    (entry_stated s (with_loads (with_arrival E j e.loads) e)).1 record {
      budget = p.budget;
      loads = used_one (load_after E) loadb zero_loadb (arrival_load E) e.loads s.count j l p.loads;
      arrivals = p.arrivals;
    }

module _ (s : Server) (k : ServerStated s) where
  module _ (e : Entry) (h : entryb s e ≡ true) where
    parts : EntryStated s e
    parts = (entry_stated s e).0 h

    queue : HeldEach (task_reaches s.tasks) e.arrivals
    queue = (held_each (task_reaches s.tasks) e.arrivals).0 parts.arrivals

    -- every arrival that is due finds room
    serve_room : room_of (task_delay s) e.arrivals ≡ true
    serve_room = held_accepted (task_delay s) (task_reaches s.tasks) e.arrivals queue (λ j m. (task_delayed s k j m).1)

    serve_sound : entryb s (served4 s e) ≡ true
    unfolding served4
    serve_sound =
        (entry_stated s (served4 s e)).1 record {
          budget = parts.budget;
          loads = arrived_used s s.count (due_in e.arrivals) e.loads used parts.loads;
          arrivals =
              (held_each (task_reaches s.tasks) (arrivals_turn s e)).1
              (held_again (task_delay s) (task_reaches s.tasks) e.arrivals queue (λ j m. (task_delayed s k j m).1));
        }
      where
        used : (j : ℕ) → inb j (due_in e.arrivals) ≡ true → j < s.count
        used j d =
            let t : there j e.arrivals ≡ true = both_left _ _ (sym (held_due (task_reaches s.tasks) e.arrivals queue j) ∙ d) in
            (task_delayed s k j (held_reached (task_reaches s.tasks) e.arrivals queue j t)).0

-- ALL ENTRIES

-- C of the server at a place
abbrev full_in : List Server → ℕ → ℕ
full_in ss i = (get_or ss i zero_server).budget.0

entries_refilled : (ss : List Server) (ids : List ℕ) (es : List Entry) → entriesb ss es ≡ true → entriesb ss (refilled (full_in ss) ids es) ≡ true
entries_refilled ss [] es h = h
entries_refilled ss (id ∷ ids) es h = entries_refilled ss ids _ (paired_one entryb (with_budget (full_in ss id)) ss es id (fill_sound (get_or ss id zero_server)) h)

pub entries_served : (ss : List Server) (es : List Entry) → Every ss → entriesb ss es ≡ true → entriesb ss (each_entry served4 ss es) ≡ true
entries_served [] es k h = refl
entries_served (s ∷ ss) [] k h = refl
entries_served (s ∷ ss) (e ∷ es) k h = rw (serve_sound s k.0 e (both_left _ _ h)) (entries_served ss es k.1 (both_right (entryb s e) _ h))

entries_room : (ss : List Server) (es : List Entry) → Every ss → entriesb ss es ≡ true → all_roomb ss es ≡ true
entries_room [] es k h = refl
entries_room (s ∷ ss) [] k h = refl
entries_room (s ∷ ss) (e ∷ es) k h = rw (serve_room s k.0 e (both_left _ _ h)) (entries_room ss es k.1 (both_right (entryb s e) _ h))

-- A TICK

module _ (s : State) (h : stateb s ≡ true) where
  state : Parts s
  state = (state_parts s).0 h

  pub refills_each : HeldEach (server_reaches s.table.servers) s.refills
  refills_each = (held_each (server_reaches s.table.servers) s.refills).0 state.refills

  -- every event that is due in the tick finds room
  pub tick_room : againb s ≡ true
  unfolding againb
  tick_room =
      rw
      (held_accepted (period_at s) (server_reaches s.table.servers) s.refills refills_each (server_delayed s.table state.table))
      (entries_room s.table.servers s.entries (table_every s.table state.table) state.entries)

  -- the entries before step 4 are sound
  pub before_sound : entriesb s.table.servers (refilled (full_at s) (due_in s.refills) (charged_entries s)) ≡ true
  before_sound =
      let ss = s.table.servers in
      let a = paired_one entryb charge ss s.entries (chosen_of s) (charge_sound (server_at s (chosen_of s))) state.entries in
      entries_refilled ss (due_in s.refills) (charged_entries s) a

  pub tick_accepts : tick_of s ≡ ticked_with none (choice_of s) (handled_of s) (state_after s)
  tick_accepts = tick_done s ((tick_accepted s).1 (h, tick_room))
