-- The due replenishments, handled one by one: what is left to do comes to the same after each, and to nothing where none is due. Assumes nothing.
use mathlib.Core.Path.{◌≡◌, refl, sym, ap, ◌∙◌}
use mathlib.Core.Bool.{true, false}
use mathlib.Core.List.{List, []}
use Prim.Native.Nat.{ℕ, suc, ◌+◌, ◌≤◌, ◌<◌}
use native.Mathlib.Omega.{arith}
use lib.ListN.{length, get_or, set}
use Rattle.small.specs.Small.{alter}
use Rattle.small.proofs.Altered.{set_alter, length_alter}
use Rattle.small.proofs.Lists.{get_or_inside}
use Rattle.queue.specs.Holds.{holdsb}
use Rattle.queue.specs.Limits.{max_gap, longest}
use Rattle.queue.specs.Row.{events_of}
use Rattle.queue.specs.Steps.{first_cell, due_step, tick_step, again_step}
use Rattle.queue.specs.declared.Queue.{Queue}
use Rattle.table.specs.Limits.{most_work, entries}
use Rattle.table.specs.Sound.{tableb}
use Rattle.table.specs.Table.{zero_server, period_in}
use Rattle.table.specs.declared.Server.{Server}
use Rattle.table.specs.declared.Table.{Table}
use Rattle.state.specs.State.{with_budget, period_at}
use Rattle.state.specs.Sound.{server_reaches}
use Rattle.state.specs.declared.Entry.{Entry}
use Rattle.state.specs.declared.State.{State}
use Rattle.state.proofs.Sizes.{past_entry}
use Rattle.state.proofs.Delays.{server_delayed}
use Rattle.scheduler.specs.Tick.{due_ids, due_in, refilled}
use Rattle.scheduler.specs.Moves.{requeued, Turning, refills_after}
use Rattle.table.proofs.Sizes.{past_server}
use Rattle.scheduler.proofs.Turns.{Turned, turned, came_to, came_more, none_due, due_few, due_in_lem, turn_is, ticked_turning}

-- C of the server at a place
abbrev full_in : Table → ℕ → ℕ
full_in t i = (get_or t.servers i zero_server).budget.0

-- how many are due
abbrev pub left_count : Queue → ℕ
left_count q = length (due_ids (events_of q))

-- n are handled: what is left to do of the entries and of the queue comes to what was to do of those at first
pub record Refilling (t : Table) (es₀ : List Entry) (q₀ : Queue) (es : List Entry) (q : Queue) (n : ℕ) : Type 0 where
  pub servers : length t.servers ≡ entries
  pub full : length es ≡ entries
  pub turning : Turning (period_in t) q
  pub budgets : refilled (full_in t) (due_ids (events_of q)) es ≡ refilled (full_in t) (due_ids (events_of q₀)) es₀
  pub queue : came_to (period_in t) q ≡ came_to (period_in t) q₀
  pub handled : n + left_count q ≡ left_count q₀
  pub few : left_count q₀ ≤ entries

pub refill_start : (t : Table) (es : List Entry) (q : Queue) → length t.servers ≡ entries → length es ≡ entries → Turning (period_in t) q
    → Refilling t es q es q 0
refill_start t es q m l k = record {
  servers = m;
  full = l;
  turning = k;
  budgets = refl;
  queue = refl;
  handled = omega arith;
  few = omega (arith, k.few, due_few (events_of q));
}

-- ONE MORE, i, which is due first

module _ {t : Table} {es₀ es : List Entry} {q₀ q : Queue} {n i : ℕ} (r : Refilling t es₀ q₀ es q n) (d : due_step q ≡ true) (e : i ≡ (first_cell q).id) where
  one : Turned (period_in t) q
  one = turned (period_in t) q r.turning d

  -- its server is one of the eight
  pub refill_small : i < entries
  refill_small = rw e one.small

  -- what the code reads of the table
  abbrev server : Server
  server = get_or t.servers i past_server

  server_is : server ≡ get_or t.servers (first_cell q).id zero_server
  server_is = get_or_inside t.servers i past_server zero_server (omega (arith, refill_small, r.servers)) ∙ ap (λ (j : ℕ). get_or t.servers j zero_server) e

  -- and the queue with it put in again
  module _ {p : Queue} (a : p ≡ again_step max_gap q server.period.0) where
    again_is : p ≡ requeued (period_in t) q
    again_is = a ∙ ap (λ (v : Server). again_step max_gap q v.period.0) server_is

    -- one less is due
    pub refill_less : left_count q ≡ suc (left_count p)
    refill_less = rw again_is (ap length one.first)

    -- with its budget set, what is left to do comes to the same
    pub refill_more : {fs : List Entry} → fs ≡ set es i (with_budget server.budget.0 (get_or es i past_entry)) → Refilling t es₀ q₀ fs p (n + 1)
    refill_more f =
        let id = (first_cell q).id in
        let m : i < length es = omega (arith, refill_small, r.full) in
        let g = f ∙ set_alter (with_budget server.budget.0) es i past_entry m ∙ (λ k. alter (with_budget (server_is k).budget.0) es (e k)) in
        let h : n + 1 + left_count p ≡ left_count q₀ = omega (arith, r.handled, refill_less) in
        rw g record {
          servers = r.servers;
          full = length_alter (with_budget (full_in t id)) es id ∙ r.full;
          turning = rw again_is one.turning;
          budgets = rw again_is (rw one.first at r.budgets);
          queue = rw again_is (sym (came_more (period_in t) q one) ∙ r.queue);
          handled = h;
          few = r.few;
        }

-- ALL OF A STATE whose replenishments are as they are to be

module _ (s : State) (t : tableb longest most_work s.table ≡ true) (h : holdsb max_gap longest (server_reaches s.table.servers) s.refills ≡ true) where
  abbrev reach : List ℕ
  reach = server_reaches s.table.servers

  -- the queue after the clock may have events due
  pub refills_turning : Turning (period_at s) (tick_step s.refills)
  refills_turning = ticked_turning reach s.refills h (period_at s) (server_delayed s.table t)

  -- at most 8 are due
  pub refills_few : length (due_in s.refills) ≤ entries
  refills_few = rw (due_in_lem reach s.refills h) (omega (arith, refills_turning.few, due_few (events_of (tick_step s.refills))))

  -- where none is due any more all are handled
  pub refills_done : {es : List Entry} {q : Queue} {n : ℕ} → Refilling s.table s.entries (tick_step s.refills) es q n → due_step q ≡ false
      → (record { entries = es; table = s.table; refills = q } ≡ refills_after s) × (n ≡ length (due_in s.refills))
  refills_done {q = q} r d =
      let none : due_ids (events_of q) ≡ [] = none_due q r.turning.sound d in
      let due : due_ids (events_of (tick_step s.refills)) ≡ due_in s.refills = sym (due_in_lem reach s.refills h) in
      let e : came_to (period_at s) q ≡ q = rw none in
      let budgets = rw (none, due) at r.budgets in
      let queue = sym e ∙ r.queue ∙ sym (turn_is reach s.refills h (period_at s)) in (
        λ i. record { entries = budgets i; table = s.table; refills = queue i },
        omega (arith, r.handled, ap length none, ap length due),
      )
