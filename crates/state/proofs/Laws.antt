-- WHAT IS SAID OF A STATE, sentence by sentence: the fresh state, who is chosen, who wants a tick, and who gives its budget up. The arrays have their lengths.
-- Assumes nothing.
use mathlib.Core.Path.{◌≡◌, refl, ap, ◌∙◌, sym}
use mathlib.Core.Bool.{Bool, true, false}
use mathlib.Core.List.{List}
use mathlib.Core.Logic.{◌↔◌, ◌≢◌}
use Prim.Native.Nat.{ℕ, ◌<◌, ◌≤◌}
use native.Mathlib.Omega.{arith}
use lib.Dec.{eqb, ltb}
use lib.ListN.{length, get_or}
use borrow.Author.Tests.{eq-eqb, ne_eqb, eqb-true, not-true, le-ltb, ltb-true, ltb-false}
use Rattle.small.specs.Small.{pick}
use Rattle.small.proofs.Tests.{both_left, both_right, both_false, contrary}
use Rattle.refusal.specs.Refusal.{none}
use Rattle.queue.specs.Meaning.{away}
use Rattle.queue.specs.Limits.{longest}
use Rattle.table.specs.Kind.{polling_kind}
use Rattle.table.specs.Limits.{entries, most_work}
use Rattle.table.specs.Table.{zero_server}
use Rattle.table.specs.Sound.{tableb}
use Rattle.table.specs.declared.Table.{Table}
use Rattle.state.specs.State.{server_at, entry_at, task_at, zero_load, load_at, period_at, full_at}
use Rattle.state.specs.Sound.{server_reaches, stateb}
use Rattle.state.specs.Choice.{some_pending, wantsb, chosen_of, choice_of, servesb, first_pending}
use Rattle.state.specs.Meaning.{SizedState, pending_at, budget_at, lapses_at, refill_away, ready_at, Chosen, arrival_away}
use Rattle.state.specs.declared.Entry.{Entry}
use Rattle.state.specs.declared.State.{State}
use Rattle.state.specs.declared.Load.{Load}
use Rattle.state.specs.declared.Choice.TheVariants.{Idle, Burning, Running}
use Rattle.state.specs.Fresh.{task_away, server_away, fresh_load, filled_entry, fresh_entry, fresh_state, made_with, fresh_of}
use Rattle.state.proofs.Lapsing.{lapsed_budget, lapsed_keeps}
use Rattle.state.proofs.Choosing.{some_none, first_pending_lem, some_first}
use Rattle.state.proofs.Delays.{server_delayed, table_every}
use Rattle.state.proofs.Answers.{fresh_done}
use Rattle.state.proofs.Refusals.{fresh_accepted}
use Rattle.state.proofs.FirstReady.{wants_idling, ready_used, pending_used, chosen, highest, parts}
use Rattle.state.proofs.FreshSound.{fresh_away, entry_away, entries_fresh, loads_fresh, every_at, refill_near}

-- THE FRESH STATE

module _ (t : Table) (h : tableb longest most_work t ≡ true) where
  -- it is what the call makes
  pub fresh_made : fresh_of t ≡ made_with none (fresh_state t)
  fresh_made = fresh_done t ((fresh_accepted t).1 h)

  -- "each budget is C"; but "at setup .. a polling server with no pending work has its budget set to 0" (document 02, #101)
  pub fresh_budget : (i : ℕ) → budget_at (fresh_state t) i ≡ pick (lapses_at (fresh_state t) i) 0 (full_at (fresh_state t) i)
  unfolding fresh_state fresh_entry
  fresh_budget i = let s = get_or t.servers i zero_server in lapsed_budget s (filled_entry s) _ (entries_fresh t.servers i)

  -- "each replenishment is P away"
  pub fresh_refill : (i : ℕ) → refill_away (fresh_state t) i ≡ period_at (fresh_state t) i
  unfolding fresh_state
  fresh_refill = fresh_away server_away zero_server t.servers (server_reaches t.servers) refl (server_delayed t h) (refill_near t)

  -- "A periodic task with O = 0 has work E and its next arrival T away; with O > 0, work 0 and its arrival O away."
  pub fresh_load_lem : (i j : ℕ) → load_at (fresh_state t) i j ≡ fresh_load (task_at (server_at (fresh_state t) i) j)
  unfolding fresh_state fresh_entry
  fresh_load_lem i j =
      let s = get_or t.servers i zero_server in
      ap (λ (e : Entry). get_or e.loads j zero_load) (entries_fresh t.servers i)
      ∙ lapsed_keeps s (filled_entry s) (λ (e : Entry). get_or e.loads j zero_load) refl
      ∙ loads_fresh s.tasks j

  pub fresh_arrival : (i j : ℕ) → arrival_away (fresh_state t) i j ≡ task_away (task_at (server_at (fresh_state t) i) j)
  unfolding fresh_state
  fresh_arrival i j =
      ap (λ (e : Entry). away j e.arrivals) (entries_fresh t.servers i)
      ∙ entry_away (get_or t.servers i zero_server) (every_at t.servers (table_every t h) i) j

-- STEPS 1 AND 2: who is chosen

module _ (s : State) (z : SizedState s) (h : stateb s ≡ true) where
  pub chosen_first : Chosen s (choice_of s)
  unfolding choice_of
  chosen_first = go (ltb k entries) (ltb j entries) refl refl
    where
      k : ℕ
      k = chosen_of s

      ls : List Load
      ls = (entry_at s k).loads

      j : ℕ
      j = first_pending ls

      none_ready : entries ≤ k → (i : ℕ) → ready_at s i ≡ false
      none_ready l i = go (ready_at s i) refl
        where
          go : (b : Bool) → ready_at s i ≡ b → b ≡ false
          go true r = contrary r ((chosen s z h).above i (omega (arith, ready_used s z h i r, (parts s z h).servers.count)))
          go false r = refl

      go : (a b : Bool) → ltb k entries ≡ a → ltb j entries ≡ b → Chosen s (pick a (pick b (Running k j) (Burning k)) Idle)
      go false b p q = none_ready (ltb-false k entries p)
      go true true p q =
          let l = ltb-true k entries p in
          let f = first_pending_lem ls zero_load in
          let w = f.here (omega (arith, z.loads k l, ltb-true j entries q)) in
          (highest s z h l, record { used = pending_used s z h k j l w; pending = w; above = f.above })
      go true false p q =
          let l = ltb-true k entries p in
          let t = highest s z h l in
          let m : length ls ≤ j = omega (arith, z.loads k l, ltb-false j entries q) in
          let n : some_pending ls ≡ false = rw (some_first ls) (le-ltb j (length ls) m) in
          (t, record { idling = wants_idling (server_at s k).kind (entry_at s k) n (both_left _ _ t.ready); none = (some_none ls).0 n })

-- whom a choice serves
pub serves_chosen : (s : State) (i : ℕ) → i < entries → servesb (choice_of s) i ≡ eqb (chosen_of s) i
unfolding choice_of
serves_chosen s i l = go (ltb k entries) (ltb j entries) refl
  where
    k : ℕ
    k = chosen_of s

    j : ℕ
    j = first_pending (entry_at s k).loads

    go : (a b : Bool) → ltb k entries ≡ a → servesb (pick a (pick b (Running k j) (Burning k)) Idle) i ≡ eqb k i
    go true true p = refl
    go true false p = refl
    go false b p = sym (ne_eqb k i (λ e. omega (arith, ltb-false k entries p)))

-- POLLING SERVERS

-- "Kind 3 wants a tick as kind 2 does."
pub wants_alike : (e : Entry) → wantsb 3 e ≡ wantsb 2 e
unfolding wantsb
wants_alike e = refl

-- where work is pending
pub polling_wants : (kind : ℕ) (e : Entry) → kind ≡ polling_kind → wantsb kind e ≡ some_pending e.loads
unfolding wantsb
polling_wants kind e k = rw k

-- "a polling server with no pending work"
pub lapses_words : (s : State) (i : ℕ) → lapses_at s i ≡ true ↔ ((server_at s i).kind ≡ polling_kind) × ((j : ℕ) → pending_at s i j ≡ false)
lapses_words s i = (
  λ h. (
    eqb-true (server_at s i).kind polling_kind (both_left _ _ h),
    (some_none (entry_at s i).loads).0 (not-true (some_pending (entry_at s i).loads) (both_right (eqb (server_at s i).kind polling_kind) _ h)),
  ),
  λ w. rw (eq-eqb (server_at s i).kind polling_kind w.0, (some_none (entry_at s i).loads).1 w.1),
)

-- a server gives nothing up where it is not polling, and where work is pending

pub not_polling : (s : State) (i : ℕ) → (server_at s i).kind ≢ polling_kind → lapses_at s i ≡ false
not_polling s i n = rw (ne_eqb (server_at s i).kind polling_kind n)

pub working : (s : State) (i : ℕ) → some_pending (entry_at s i).loads ≡ true → lapses_at s i ≡ false
working s i w = rw (w, both_false (eqb (server_at s i).kind polling_kind))
