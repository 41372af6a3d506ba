-- WHAT THE CALLS DO, sentence by sentence: the four steps of a tick for each server and each task, what polling servers give up, and an arrival. The arrays have their
-- lengths. Assumes nothing.
use mathlib.Core.Path.{◌≡◌, refl, ◌∙◌}
use mathlib.Core.Bool.{Bool, true, false}
use mathlib.Core.List.{List, [], ◌∷◌}
use mathlib.Core.Logic.{◌↔◌}
use Prim.Native.Nat.{ℕ, zero, suc, ◌-◌, ◌<◌, ◌≤◌, ◌+◌}
use native.Mathlib.Omega.{arith}
use lib.Dec.{eqb, ltb, leb}
use lib.ListN.{length, get_or}
use borrow.Author.Tests.{eq-eqb, ne_eqb, leb-true, leb-false, le-leb, lt-leb}
use Rattle.small.specs.Small.{pick, alter, both}
use Rattle.small.proofs.Tests.{contrary}
use Rattle.small.proofs.Altered.{length_alter, read_altered, alter_keeps}
use Rattle.queue.specs.Meaning.{there}
use Rattle.queue.specs.Limits.{longest, max_gap}
use Rattle.queue.specs.Row.{events_of}
use Rattle.queue.specs.Sound.{soundb}
use Rattle.queue.proofs.SoundLaws.{sound_is}
use Rattle.queue.proofs.Keeps.{clock_sound}
use Rattle.table.specs.Limits.{entries}
use Rattle.table.specs.Table.{period_of}
use Rattle.state.specs.State.{zero_entry, server_at, entry_at, task_at, zero_load, most_pending, load, load_at, period_at, full_at}
use Rattle.state.specs.Sound.{server_reaches, stateb, task_reaches}
use Rattle.state.specs.Choice.{some_pending, chosen_of, choice_of, servesb, first_pending, choice_number}
use Rattle.state.specs.Meaning.{SizedState, budget_at, lapses_at, refill_away, SoundState, Chosen, arrival_there, arrival_away, runsb}
use Rattle.state.specs.declared.Entry.{Entry}
use Rattle.state.specs.declared.State.{State}
use Rattle.state.specs.declared.Load.{Load}
use Rattle.state.specs.declared.Choice.TheVariants.{Idle, Burning, Running}
use Rattle.state.proofs.Soundness.{state_sound}
use Rattle.state.proofs.Lapsing.{lapsed_budget}
use Rattle.state.proofs.Delays.{server_delayed}
use Rattle.state.proofs.Stated.{state_parts}
use Rattle.state.proofs.Laws.{chosen_first, serves_chosen}
use Rattle.scheduler.specs.Arrive.{with_arrival, with_loads, arrive_of, arrival_by, arrival_number, lost_after, load_after}
use Rattle.scheduler.specs.Moves.{charged_entries, handled_entries}
use Rattle.scheduler.specs.Tick.{charge, due_in, served4, state_after, tick_of, less_work, clocked, handled_of}
use Rattle.scheduler.specs.Meaning.{Spent, Filled, due_next, arrives}
use Rattle.scheduler.specs.Meaning.{all_due_next}
use Rattle.scheduler.proofs.LapsedEntries.{lapsed_at, pending_kept}
use Rattle.scheduler.proofs.Reached.{arrive_either}
use Rattle.scheduler.proofs.AgainLaws.{inb, held_due, held_moved}
use Rattle.scheduler.proofs.TickSound.{refills_each, tick_accepts}
use Rattle.scheduler.proofs.Answers.{arrive_done}
use Rattle.scheduler.proofs.Budgets.{each_budget, refilled_budget, charged_budget}
use Rattle.scheduler.proofs.TaskLaws.{Once, due_once, arrived_at, before, after, same_arrivals, full_loads, queue, turned, charged_load, held_next, entries_next}

-- STEPS 1 AND 2: who is chosen

module _ (s : State) (z : SizedState s) (h : stateb s ≡ true) where
  -- The number of a tick's choice: 0 (idle) exactly when no server wants and has budget; 1 (burning) exactly when the highest that does is an idling server
  -- without work; 2 (running) exactly when it has work pending, in the first such task of it
  pub choice_number_lem : let n = choice_number (tick_of s).choice in
      let k = chosen_of s in
      (n ≡ 0 ↔ Chosen s Idle) × (n ≡ 1 ↔ Chosen s (Burning k)) × (n ≡ 2 ↔ Chosen s (Running k (first_pending (entry_at s k).loads)))
  unfolding choice_of
  choice_number_lem = rw (tick_accepts s h) (go (ltb k entries) (ltb j entries) (chosen_first s z h))
    where
      k : ℕ
      k = chosen_of s

      j : ℕ
      j = first_pending (entry_at s k).loads

      go : (a b : Bool) → let c = pick a (pick b (Running k j) (Burning k)) Idle in
          Chosen s c → (choice_number c ≡ 0 ↔ Chosen s Idle) × (choice_number c ≡ 1 ↔ Chosen s (Burning k)) × (choice_number c ≡ 2 ↔ Chosen s (Running k j))
      go false b x = (
        (λ n. x, λ y. refl),
        (λ n. absurd (omega arith), λ y. contrary y.0.ready (x k)),
        (λ n. absurd (omega arith), λ y. contrary y.0.ready (x k)),
      )
      go true false x = (
        (λ n. absurd (omega arith), λ y. contrary x.0.ready (y k)),
        (λ n. x, λ y. refl),
        (λ n. absurd (omega arith), λ y. contrary y.1.pending (x.1.none j)),
      )
      go true true x = (
        (λ n. absurd (omega arith), λ y. contrary x.0.ready (y k)),
        (λ n. absurd (omega arith), λ y. contrary x.1.pending (y.1.none j)),
        (λ n. x, λ y. refl),
      )

-- STEPS 3 AND 4, for each server in use: its budget and its replenishment

module _ (s : State) (z : SizedState s) (h : stateb s ≡ true) (i : ℕ) (u : i < s.table.count) where
  known : SoundState s
  known = (state_sound s z).0 h

  inside : i < entries
  inside = omega (arith, known.table.count.high)

  -- its replenishment is there
  refill_there_lem : there i s.refills ≡ true
  refill_there_lem = (known.refills_held i).1 u

  is_due : inb i (due_in s.refills) ≡ eqb (refill_away s i) 1
  is_due = held_due (server_reaches s.table.servers) s.refills (refills_each s h) i ∙ rw refill_there_lem

  -- "The server's budget and the chosen task's work fall by 1." "Due replenishments set the budget to C": "emptied first and then full"
  handled_budget : (get_or (handled_entries s) i zero_entry).budget.0 ≡ pick (eqb (refill_away s i) 1) (full_at s i) (budget_at s i - pick (servesb (choice_of s) i) 1 0)
  handled_budget =
      let l : i < length s.entries = omega (arith, inside, z.servers) in
      let m : i < length (charged_entries s) = rw (length_alter charge s.entries (chosen_of s)) l in
      each_budget s.table.servers _ i
      ∙ refilled_budget (full_at s) (due_in s.refills) (charged_entries s) i m
      ∙ rw (is_due, charged_budget s.entries (chosen_of s) i l, serves_chosen s i inside)

  -- and "at the end of every tick after all events are handled, a polling server with no pending work has its budget set to 0" (document 02, #101)
  pub tick_budget : budget_at (state_after s) i
      ≡ pick (lapses_at (state_after s) i) 0 (pick (eqb (refill_away s i) 1) (full_at s i) (budget_at s i - pick (servesb (choice_of s) i) 1 0))
  unfolding state_after
  tick_budget = rw (← handled_budget) (lapsed_budget (server_at s i) (get_or (handled_entries s) i zero_entry) _ (lapsed_at s.table.servers (handled_entries s) i))

  -- "are put in again P away"; "every distance falls by 1"
  pub tick_due : refill_away (state_after s) i ≡ pick (eqb (refill_away s i) 1) (period_at s i) (refill_away s i - 1)
  unfolding state_after
  tick_due =
      (held_moved (period_at s) (server_reaches s.table.servers) s.refills (refills_each s h) (server_delayed s.table ((state_parts s).0 h).table)).moved i refill_there_lem

  -- so where the replenishment is further than the next tick, the server spends what it is served, or gives all up
  pub tick_spent : 1 < refill_away s i → Spent s (state_after s) i
  tick_spent m =
      let n : eqb (refill_away s i) 1 ≡ false = ne_eqb (refill_away s i) 1 (λ e. omega arith) in
      record { budget = rw n at tick_budget; refill = rw n at tick_due }

  -- and where it is the next tick, the budget is full behind it, or given up
  pub tick_filled : refill_away s i ≡ 1 → Filled s (state_after s) i
  tick_filled e =
      let n : eqb (refill_away s i) 1 ≡ true = eq-eqb (refill_away s i) 1 e in
      record { budget = rw n at tick_budget; refill = rw n at tick_due }

  -- "until its next refill": a budget that is 0 stays so up to there
  pub tick_empty : 1 < refill_away s i → budget_at s i ≡ 0 → budget_at (state_after s) i ≡ 0
  tick_empty m e = (tick_spent m).budget ∙ go (lapses_at (state_after s) i)
    where
      go : (b : Bool) → pick b 0 (budget_at s i - pick (servesb (choice_of s) i) 1 0) ≡ 0
      go true = refl
      go false = omega arith

-- STEPS 3 AND 4, for each task: its work and its arrivals

module _ (s : State) (z : SizedState s) (h : stateb s ≡ true) (i : ℕ) (l : i < entries) where
  -- "go in again T away", and every other comes 1 nearer: the same arrivals are there
  pub tick_arrivals : (j : ℕ) → arrival_there (state_after s) i j ≡ arrival_there s i j
  tick_arrivals = (turned s z h i l).same

  pub tick_arrival : (j : ℕ) → arrival_there s i j ≡ true
      → arrival_away (state_after s) i j ≡ pick (eqb (arrival_away s i j) 1) (period_of (task_at (server_at s i) j).release) (arrival_away s i j - 1)
  tick_arrival = (turned s z h i l).moved

  module _ (j : ℕ) (m : j < entries) where
    -- "The server's budget and the chosen task's work fall by 1." "Then due task arrivals, by server rank, add E": or it is lost (`load_lost`)
    pub tick_load : let l = pick (runsb (choice_of s) i j) (less_work (load_at s i j)) (load_at s i j) in
        load_at (state_after s) i j ≡ pick (arrives s i j) (load_after (task_at (server_at s i) j).work.0 l) l
    unfolding served4
    tick_load =
        let q = (entry_at s i).arrivals in
        let c : soundb max_gap longest (clocked q) ≡ true = clock_sound max_gap longest q (omega arith) (queue s z h i l).sound in
        let o : Once (due_in q) = due_once (events_of (clocked q)) (sound_is max_gap longest (clocked q) c).distinct in
        rw (after s z h i l (λ (e : Entry). get_or e.loads j zero_load) (λ e. refl), same_arrivals s z h i l)
        (arrived_at (server_at s i) (due_in q) (before s z h i l).loads j o (omega (arith, full_loads s z h i l)) ∙ rw (charged_load s z h i l j m, held_due (task_reaches (server_at s i).tasks) q (queue s z h i l) j))

-- what an arrival does to a load: "add E"
pub load_added : (E : ℕ) (l : Load) → l.pending.0 + E ≤ most_pending → load_after E l ≡ load (l.pending.0 + E) l.lost
unfolding load_after
load_added E l h = rw (le-leb (l.pending.0 + E) most_pending h)

-- "An arrival whose E would bring pending work above 1,000,000 is lost and adds 1 to the task's lost count, which stops at 65,535."
pub load_lost : (E : ℕ) (l : Load) → most_pending < l.pending.0 + E → load_after E l ≡ load l.pending.0 (lost_after l.lost)
unfolding load_after
load_lost E l h = rw (lt-leb (l.pending.0 + E) most_pending h)

-- THE HANDLED COUNT

-- "how many events it handled: replenishments and arrivals, lost ones included. That count equals the events due in step 4."
pub tick_handled : (s : State) → SizedState s → stateb s ≡ true → handled_of s ≡ due_next (events_of s.refills) + all_due_next s.entries
unfolding handled_of
tick_handled s z h =
    let p = (state_parts s).0 h in
    rw (held_next (server_reaches s.table.servers) s.refills p.refills, entries_next s.table.servers s.entries (omega (arith, z.table.servers, z.servers)) p.entries)

-- A TICK "hands the whole table back" as it was
pub tick_table : (s : State) → (state_after s).table ≡ s.table
unfolding state_after
tick_table s = refl

-- AN ARRIVAL

-- "It says accepted or lost.": the number of what a call that is not refused says is 0 (accepted) exactly when the pending work with E is at most 1,000,000,
-- and 1 (lost) exactly when it would be above
pub arrival_number_lem : (s : State) (i j : ℕ) → (arrive_of s i j).refusal.number ≡ 0 → let n = arrival_number (arrive_of s i j).arrival in
    let w = (load_at s i j).pending.0 + (task_at (server_at s i) j).work.0 in
    (n ≡ 0 ↔ (w ≤ most_pending)) × (n ≡ 1 ↔ (most_pending < w))
arrival_number_lem s i j a = rw (arrive_done s i j a) (go (leb w most_pending) refl)
  where
    w : ℕ
    w = (load_at s i j).pending.0 + (task_at (server_at s i) j).work.0

    go : (b : Bool) → leb w most_pending ≡ b → (arrival_number (arrival_by b) ≡ 0 ↔ (w ≤ most_pending)) × (arrival_number (arrival_by b) ≡ 1 ↔ (most_pending < w))
    go true e = let l = leb-true w most_pending e in ((λ n. l, λ m. refl), (λ n. absurd (omega arith), λ m. absurd (omega arith)))
    go false e = let l = leb-false w most_pending e in ((λ n. absurd (omega arith), λ m. absurd (omega arith)), (λ n. l, λ m. refl))

-- an arrival call that is not refused: its task's load takes it, and every other load is as it was
pub arrive_load : (s : State) → SizedState s → (i j : ℕ) → (arrive_of s i j).refusal.number ≡ 0 → (k m : ℕ) → k < entries → m < entries
    → load_at (arrive_of s i j).state k m ≡ pick (both (eqb i k) (eqb j m)) (load_after (task_at (server_at s i) j).work.0 (load_at s k m)) (load_at s k m)
arrive_load s z i j a k m l n =
    rw (arrive_done s i j a, read_altered f s.entries i k zero_entry (omega (arith, z.servers))) (go (eqb i k))
  where
    E : ℕ
    E = (task_at (server_at s i) j).work.0

    f : Entry → Entry
    f e = with_loads (with_arrival E j e.loads) e

    go : (b : Bool) → get_or (pick b (f (entry_at s k)) (entry_at s k)).loads m zero_load ≡ pick (both b (eqb j m)) (load_after E (load_at s k m)) (load_at s k m)
    go true = read_altered (load_after E) (entry_at s k).loads j m zero_load (omega (arith, z.loads k l))
    go false = refl

-- it changes neither a budget nor the replenishments, nor the table
pub arrive_budget : (s : State) (i j k : ℕ) → budget_at (arrive_of s i j).state k ≡ budget_at s k
arrive_budget s i j k = arrive_either s i j (λ (x : State). budget_at x k ≡ budget_at s k) refl λ a. alter_keeps _ (λ (e : Entry). e.budget.0) (λ e. refl) s.entries i k zero_entry

pub arrive_refills : (s : State) (i j : ℕ) → (arrive_of s i j).state.refills ≡ s.refills
arrive_refills s i j = arrive_either s i j (λ (x : State). x.refills ≡ s.refills) refl λ a. refl

pub arrive_table : (s : State) (i j : ℕ) → (arrive_of s i j).state.table ≡ s.table
arrive_table s i j = arrive_either s i j (λ (x : State). x.table ≡ s.table) refl λ a. refl

-- it takes no work away
pub arrive_pending : (s : State) (i j k : ℕ) → some_pending (entry_at s k).loads ≡ true → some_pending (entry_at (arrive_of s i j).state k).loads ≡ true
arrive_pending s i j k h = arrive_either s i j (λ (x : State). some_pending (entry_at x k).loads ≡ true) h λ a. go s.entries i k h
  where
    E : ℕ
    E = (task_at (server_at s i) j).work.0

    go : (es : List Entry) (i k : ℕ) → some_pending (get_or es k zero_entry).loads ≡ true
        → some_pending (get_or (alter (λ (e : Entry). with_loads (with_arrival E j e.loads) e) es i) k zero_entry).loads ≡ true
    go [] i k h = h
    go (e ∷ es) zero zero h = pending_kept E j e.loads h
    go (e ∷ es) zero (suc k) h = h
    go (e ∷ es) (suc i) zero h = h
    go (e ∷ es) (suc i) (suc k) h = go es i k h
