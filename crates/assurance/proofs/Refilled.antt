-- "So a budget that ends on the tick of its refill is emptied first and then full": and so its server runs on the next tick, if it wants that tick and nobody
-- above it is ready. A polling server gives the new budget up where the tick leaves it without work, so of one work is to be pending behind the tick. Assumes
-- nothing.
use mathlib.Core.Path.{◌≡◌, refl, sym, ap, ◌∙◌}
use mathlib.Core.Bool.{Bool, true, false}
use mathlib.Core.List.{List, [], ◌∷◌}
use Prim.Native.Nat.{ℕ, ◌<◌}
use native.Mathlib.Decide.{dec_lt}
use native.Mathlib.Omega.{arith}
use lib.Dec.{eqb}
use lib.ListN.{get_or}
use borrow.Author.Tests.{lt-ltb, eq-eqb, eqb-true, eqb-false, not-false}
use Rattle.small.proofs.Tests.{contrary}
use Rattle.queue.specs.Limits.{longest}
use Rattle.table.specs.Kind.{polling_kind}
use Rattle.table.specs.Limits.{most_work}
use Rattle.table.specs.Table.{zero_server}
use Rattle.table.specs.declared.Table.{Table}
use Rattle.table.proofs.Soundness.{table_sound}
use Rattle.state.specs.State.{server_at, full_at}
use Rattle.state.specs.Sound.{stateb}
use Rattle.state.specs.Choice.{choice_of, servesb}
use Rattle.state.specs.Meaning.{SizedState, ready_at, budget_at, lapses_at, refill_away, Highest, Chosen}
use Rattle.state.specs.declared.State.{State}
use Rattle.state.specs.declared.Choice.{Choice}
use Rattle.state.specs.declared.Choice.TheVariants.{Idle, Burning, Running}
use Rattle.state.proofs.Stated.{state_parts}
use Rattle.state.proofs.Laws.{not_polling, working, chosen_first}
use Rattle.scheduler.specs.Arrive.{arrive_of}
use Rattle.scheduler.specs.Tick.{tick_of}
use Rattle.scheduler.proofs.Keeps.{ticked_sound, arrive_sound}
use Rattle.scheduler.proofs.TickSound.{tick_accepts}
use Rattle.scheduler.proofs.KeptSizes.{tick_sized, arrive_sized}
use Rattle.scheduler.proofs.Laws.{tick_filled, tick_table, arrive_budget}
use Rattle.assurance.specs.History.{arrived}
use Rattle.assurance.specs.Demand3.{wants_at, workless}

-- nothing is given up, where a polling server has work behind the tick
keeps : (s : State) → stateb s ≡ true → (i : ℕ) → ((server_at s i).kind ≡ polling_kind → workless i (tick_of s).state ≡ false) → lapses_at (tick_of s).state i ≡ false
keeps s h i k = go (eqb (server_at s i).kind polling_kind) refl
  where
    same : (server_at (tick_of s).state i).kind ≡ (server_at s i).kind
    same = rw (tick_accepts s h) (ap (λ (t : Table). (get_or t.servers i zero_server).kind) (tick_table s))

    go : (b : Bool) → eqb (server_at s i).kind polling_kind ≡ b → lapses_at (tick_of s).state i ≡ false
    go true p = working (tick_of s).state i (not-false _ (k (eqb-true (server_at s i).kind polling_kind p)))
    go false p = not_polling (tick_of s).state i (λ q. eqb-false (server_at s i).kind polling_kind p (sym same ∙ q))

-- on every sound state, whatever is left of the budget and whomever the tick serves: a budget of 1 that this tick takes is full on the next one too
pub refilled_full : (s : State) → SizedState s → stateb s ≡ true → (i : ℕ) → i < s.table.count → refill_away s i ≡ 1
    → ((server_at s i).kind ≡ polling_kind → workless i (tick_of s).state ≡ false)
    → budget_at (tick_of s).state i ≡ full_at s i
refilled_full s z h i l e k = let n = rw (tick_accepts s h) at (keeps s h i k) in rw (tick_accepts s h) (rw n at (tick_filled s z h i l e).budget)

-- THE NEXT TICK

-- sound like the one before, and with its budgets
module _ (i : ℕ) where
  arrived_sound : (s : State) (between : List (ℕ × ℕ)) → SizedState s → stateb s ≡ true
      → let next = arrived s between in SizedState next × (stateb next ≡ true) × (budget_at next i ≡ budget_at s i)
  arrived_sound s [] z h = (z, h, refl)
  arrived_sound s (a ∷ rest) z h =
      let r = arrived_sound (arrive_of s a.0 a.1).state rest (arrive_sized s a.0 a.1 z) (arrive_sound s h a.0 a.1) in
      (r.0, r.1, r.2 ∙ arrive_budget s a.0 a.1 i)

-- the highest that is ready is the one that is served
serves_highest : (s : State) (i : ℕ) → ready_at s i ≡ true → ((j : ℕ) → j < i → ready_at s j ≡ false) → (c : Choice) → Chosen s c → servesb c i ≡ true
serves_highest s i r above = go
  where
    same : (k : ℕ) → Highest s k → eqb k i ≡ true
    same k h = by (dec_lt k i) (dec_lt i k)
      where
        by : Dec (k < i) → Dec (i < k) → eqb k i ≡ true
        by (yes l) _ = contrary h.ready (above k l)
        by (no l) (yes m) = contrary r (h.above i m)
        by (no l) (no m) = eq-eqb k i (omega arith)

    go : (c : Choice) → Chosen s c → servesb c i ≡ true
    go Idle f = contrary r (f i)
    go (Burning k) f = same k f.0
    go (Running k j) f = same k f.0

-- whatever arrives between the two ticks: the next tick runs it, if it wants that tick and nobody above it is ready
pub refilled_runs : (s : State) → SizedState s → stateb s ≡ true → (i : ℕ) → i < s.table.count → refill_away s i ≡ 1
    → ((server_at s i).kind ≡ polling_kind → workless i (tick_of s).state ≡ false)
    → (between : List (ℕ × ℕ)) → let next = arrived (tick_of s).state between in
    wants_at next i ≡ true → ((j : ℕ) → j < i → ready_at next j ≡ false) → servesb (tick_of next).choice i ≡ true
refilled_runs s z h i l e k between w above =
    let known = (table_sound longest most_work s.table z.table).0 ((state_parts s).0 h).table in
    let sized : SizedState (tick_of s).state = rw (tick_accepts s h) (tick_sized s z) in
    let r = arrived_sound i (tick_of s).state between sized (ticked_sound s h) in
    let next = arrived (tick_of s).state between in
    let full : 0 < budget_at next i = omega (arith, r.2, refilled_full s z h i l e k, (known.used i l).budget.low) in
    let ready : ready_at next i ≡ true = rw (w, lt-ltb 0 (budget_at next i) full) in
    rw (tick_accepts next r.1) (serves_highest next i ready above (choice_of next) (chosen_first next r.0 r.1))
