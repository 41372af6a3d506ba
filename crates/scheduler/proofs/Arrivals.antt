-- The due arrivals of one server's entry, handled one by one: what is left to do is the same after each, and nothing where none is due. And what the
-- soundness of the entry gives of its queue after the clock. Assumes nothing.
use mathlib.Core.Path.{◌≡◌, refl, ap}
use mathlib.Core.Bool.{Bool, true, false}
use mathlib.Core.List.{List, [], ◌∷◌}
use mathlib.Core.Logic.{◌↔◌}
use Prim.Native.Nat.{ℕ, zero, suc, ◌+◌, ◌≤◌, ◌<◌}
use native.Mathlib.Omega.{arith}
use lib.Dec.{leb}
use lib.ListN.{length}
use borrow.Author.Tests.{leb-true, le-leb}
use Rattle.small.proofs.Tests.{both_left, both_right}
use Rattle.queue.specs.Limits.{longest}
use Rattle.queue.specs.Row.{events_of}
use Rattle.queue.specs.Steps.{first_cell, due_step, tick_step}
use Rattle.table.specs.Limits.{entries, most_work}
use Rattle.table.specs.declared.Server.{Server}
use Rattle.state.specs.State.{most_pending, task_at, task_delay}
use Rattle.state.specs.Sound.{task_reaches, entryb}
use Rattle.state.specs.Moves.{PendingBelow}
use Rattle.state.specs.declared.Load.{Load}
use Rattle.state.specs.declared.Entry.{Entry}
use Rattle.state.proofs.Stated.{EntryStated, entry_stated, ServerStated, loads_below, work_below}
use Rattle.state.proofs.Delays.{task_delayed}
use Rattle.scheduler.specs.Arrive.{fitsb, load_after, with_arrival}
use Rattle.scheduler.specs.Tick.{due_ids, arrived_loads, served4}
use Rattle.scheduler.specs.Moves.{tabledb, Clocked, Arriving, one_arrival, due_turn, with_queue, served_turn}
use Rattle.scheduler.proofs.Turns.{Turned, turned, came_more, none_due, due_few, due_in_lem, turn_is, ticked_turning}

-- A SERVER OF A SOUND TABLE, in use or not

pub tabled : (s : Server) → tabledb s ≡ true ↔ ServerStated s
unfolding tabledb
tabled s = (
  λ t.
      let r = both_right (leb s.count entries) _ t in
      record {
        count = leb-true s.count entries (both_left _ _ t);
        period = leb-true s.period.0 longest (both_left _ _ r);
        tasks = both_right (leb s.period.0 longest) _ r;
      },
  λ h. rw (le-leb s.count entries h.count, le-leb s.period.0 longest h.period) h.tasks,
)

-- the work of every task is in range
pub tabled_work : (s : Server) → tabledb s ≡ true → (j : ℕ) → (task_at s j).work.0 ≤ most_work
tabled_work s t j = work_below s.tasks s.count ((tabled s).0 t).tasks j

-- ONE ARRIVAL

after_below : (E : ℕ) (l : Load) → l.pending.0 ≤ most_pending → (load_after E l).pending.0 ≤ most_pending
unfolding load_after
after_below E l h = go (fitsb E l) refl
  where
    go : (b : Bool) → fitsb E l ≡ b → (load_after E l).pending.0 ≤ most_pending
    go true e = rw e (leb-true (l.pending.0 + E) most_pending e)
    go false e = rw e h

arrival_below : (E j : ℕ) (ls : List Load) → PendingBelow ls → PendingBelow (with_arrival E j ls)
arrival_below E j [] h = tt
arrival_below E zero (l ∷ ls) h = (after_below E l h.0, h.1)
arrival_below E (suc j) (l ∷ ls) h = (h.0, arrival_below E j ls h.1)

module _ (s : Server) (e : Entry) where
  module _ (a : Arriving s e) where
    arrival_turned : Turned (task_delay s) e.arrivals
    arrival_turned = turned (task_delay s) e.arrivals a.clocked.turning a.due

    -- the task is one of the eight
    pub arrival_small : (first_cell e.arrivals).id < entries
    arrival_small = arrival_turned.small

    pub arrival_clocked : Clocked s (one_arrival s e)
    unfolding one_arrival
    arrival_clocked = record {
      server = a.clocked.server;
      turning = arrival_turned.turning;
      loads = arrival_below _ _ e.loads a.clocked.loads;
    }

    -- one less is due, and what is left to do comes to the same
    pub arrival_less : (due_turn s e).handled ≡ suc (due_turn s (one_arrival s e)).handled
    unfolding due_turn one_arrival
    arrival_less = ap length arrival_turned.first

    pub arrival_same : (due_turn s e).entry ≡ (due_turn s (one_arrival s e)).entry
    unfolding due_turn one_arrival
    arrival_same =
        let l : arrived_loads s (due_ids (events_of e.arrivals)) e.loads ≡ arrived_loads s (due_ids (events_of (one_arrival s e).arrivals)) (one_arrival s e).loads =
        rw arrival_turned.first in
        λ i. record { loads = l i; arrivals = came_more (task_delay s) e.arrivals arrival_turned i; budget = e.budget }

  -- at most 8 are due
  pub arrivals_few : Clocked s e → (due_turn s e).handled ≤ entries
  unfolding due_turn
  arrivals_few k = omega (arith, k.turning.few, due_few (events_of e.arrivals))

  -- where nothing is due the entry is as it is
  pub arrivals_none : Clocked s e → due_step e.arrivals ≡ false → due_turn s e ≡ record { entry = e; handled = 0 }
  unfolding due_turn
  arrivals_none k d = rw (none_due e.arrivals k.turning.sound d)

-- THE CLOCK OF ONE SERVER

-- of a sound entry
module _ (s : Server) (e : Entry) (t : tabledb s ≡ true) (h : entryb s e ≡ true) where
  parts : EntryStated s e
  parts = (entry_stated s e).0 h

  -- its queue after the clock may have events due
  pub ticked_clocked : Clocked s (with_queue (tick_step e.arrivals) e)
  ticked_clocked = record {
    server = t;
    turning = ticked_turning (task_reaches s.tasks) e.arrivals parts.arrivals (task_delay s) (λ id r. (task_delayed s ((tabled s).0 t) id r).1);
    loads = loads_below e.loads s.count parts.loads;
  }

  -- which are what is handled
  pub served_ticked : served_turn s e ≡ due_turn s (with_queue (tick_step e.arrivals) e)
  unfolding served_turn due_turn served4
  served_ticked =
      let d = due_in_lem (task_reaches s.tasks) e.arrivals parts.arrivals in
      let r = turn_is (task_reaches s.tasks) e.arrivals parts.arrivals (task_delay s) in
      λ i. record {
        entry = record { loads = arrived_loads s (d i) e.loads; arrivals = r i; budget = e.budget };
        handled = length (d i);
      }

  -- at most 8 are due
  pub served_few : (served_turn s e).handled ≤ entries
  served_few = rw served_ticked (arrivals_few s (with_queue (tick_step e.arrivals) e) ticked_clocked)
