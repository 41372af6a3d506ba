-- Steps 3 and 4 of a tick in one entry of the state: its loads and its queue of arrivals; and how many events are due. Assumes nothing.
use mathlib.Core.Path.{◌≡◌, refl, sym, ap, ◌∙◌}
use mathlib.Core.Bool.{Bool, true, false, not}
use mathlib.Core.List.{List, [], ◌∷◌}
use Prim.Native.Nat.{ℕ, zero, suc, ◌+◌, ◌-◌, ◌≤◌, ◌<◌}
use native.Mathlib.Omega.{arith}
use lib.Dec.{ltb, eqb}
use lib.ListN.{length, get_or}
use borrow.Author.Tests.{ltb-false, ne_eqb, eqb-true, not-true}
use Rattle.small.specs.Small.{pick, both, alter}
use Rattle.small.proofs.Tests.{both_left, both_right, both_false, neither_right, contrary}
use Rattle.small.proofs.Altered.{length_alter, read_altered, alter_keeps}
use Rattle.queue.specs.Limits.{max_gap, longest}
use Rattle.queue.specs.Row.{Event, events_of}
use Rattle.queue.specs.Sound.{hasb, distinctb}
use Rattle.queue.specs.Holds.{holdsb}
use Rattle.queue.specs.Calls.{dueb, earlier}
use Rattle.queue.specs.declared.Queue.{Queue}
use Rattle.queue.proofs.Events.{not_due}
use Rattle.queue.proofs.Refusals.{clock_accepted}
use Rattle.queue.proofs.Laws.{clock_events}
use Rattle.table.specs.Limits.{entries}
use Rattle.table.specs.Table.{zero_server}
use Rattle.table.specs.declared.Server.{Server}
use Rattle.state.specs.State.{zero_load, zero_entry, with_budget, server_at, entry_at, task_at, load_at, full_at, task_delay}
use Rattle.state.specs.Sound.{task_reaches, entryb, entriesb, stateb}
use Rattle.state.specs.Choice.{first_pending, chosen_of, choice_of}
use Rattle.state.specs.Meaning.{SizedState, runsb}
use Rattle.state.specs.declared.Load.{Load}
use Rattle.state.specs.declared.Entry.{Entry}
use Rattle.state.specs.declared.State.{State}
use Rattle.state.specs.declared.Choice.TheVariants.{Idle, Burning, Running}
use Rattle.state.proofs.Stated.{Stated, stated, entry_stated, every_server}
use Rattle.state.proofs.Lapsing.{lapsed_keeps}
use Rattle.state.proofs.HeldEach.{HeldEach, held_each, held_rests}
use Rattle.state.proofs.Delays.{task_delayed}
use Rattle.scheduler.specs.Arrive.{load_after}
use Rattle.scheduler.specs.Moves.{charged_entries, handled_entries}
use Rattle.scheduler.specs.Tick.{less_work, charge, clocked, due_ids, due_in, refilled, arrived_loads, served4, each_entry, due_events, state_after}
use Rattle.scheduler.specs.Meaning.{due_next, all_due_next}
use Rattle.scheduler.proofs.LapsedEntries.{lapsed_at}
use Rattle.scheduler.proofs.KeptSizes.{charge_count, before_length}
use Rattle.scheduler.proofs.AgainLaws.{inb, ids_in, one_away, Moved, held_moved}

-- THE DUE ARRIVALS OF ONE SERVER

-- no id stands in the list twice
abbrev pub Once : List ℕ → Type 0
Once [] = Unit
Once (id ∷ ids) = (inb id ids ≡ false) × Once ids

pub due_once : (es : List Event) → distinctb es ≡ true → Once (due_ids es)
due_once [] d = tt
due_once (e ∷ es) d = go (eqb e.at 0) (due_once es rest)
  where
    rest : distinctb es ≡ true
    rest = both_right (not (hasb e.id es)) _ d

    gone : inb e.id (due_ids es) ≡ false
    gone = ids_in e.id es rest ∙ rw (not-true (hasb e.id es) (both_left _ _ d))

    go : (b : Bool) → Once (due_ids es) → Once (pick b (e.id ∷ due_ids es) (due_ids es))
    go true r = (gone, r)
    go false r = r

-- a task's load takes its arrival where its id is one of those that are due
pub arrived_at : (s : Server) (ids : List ℕ) (ls : List Load) (j : ℕ) → Once ids → j < length ls
    → get_or (arrived_loads s ids ls) j zero_load ≡ pick (inb j ids) (load_after (task_at s j).work.0 (get_or ls j zero_load)) (get_or ls j zero_load)
arrived_at s [] ls j o l = refl
arrived_at s (id ∷ ids) ls j o l =
    let f = load_after (task_at s id).work.0 in
    arrived_at s ids (alter f ls id) j o.1 (rw (length_alter f ls id) l)
    ∙ rw (read_altered f ls id j zero_load l) (go (eqb id j) (inb j ids) refl refl)
  where
    x : Load
    x = get_or ls j zero_load

    go : (b c : Bool) → eqb id j ≡ b → inb j ids ≡ c
        → let y = pick b (load_after (task_at s id).work.0 x) x in pick c (load_after (task_at s j).work.0 y) y ≡ pick (pick b true c) (load_after (task_at s j).work.0 x) x
    go true true e m = contrary m (rw (← eqb-true id j e) o.0)
    go true false e m = rw (eqb-true id j e)
    go false c e m = refl

-- ONE ENTRY OF THE STATE

pub each_at : (f : Server → Entry → Entry) (ss : List Server) (es : List Entry) (i : ℕ) → i < length ss → i < length es
    → get_or (each_entry f ss es) i zero_entry ≡ f (get_or ss i zero_server) (get_or es i zero_entry)
each_at f [] es i l m = absurd (omega arith)
each_at f (s ∷ ss) [] i l m = absurd (omega arith)
each_at f (s ∷ ss) (e ∷ es) zero l m = refl
each_at f (s ∷ ss) (e ∷ es) (suc i) l m = each_at f ss es i (omega arith) (omega arith)

-- what a budget's change keeps
refilled_keeps : {B : Type 0} (g : Entry → B) → ((n : ℕ) (e : Entry) → g (with_budget n e) ≡ g e) → (full : ℕ → ℕ) (ids : List ℕ) (es : List Entry) (i : ℕ)
    → g (get_or (refilled full ids es) i zero_entry) ≡ g (get_or es i zero_entry)
refilled_keeps g k full [] es i = refl
refilled_keeps g k full (id ∷ ids) es i =
    refilled_keeps g k full ids (alter (with_budget (full id)) es id) i ∙ alter_keeps (with_budget (full id)) g (k (full id)) es id i zero_entry

-- whom a choice runs
runs_chosen : (s : State) (i j : ℕ) → i < entries → j < entries → runsb (choice_of s) i j ≡ both (eqb (chosen_of s) i) (eqb (first_pending (entry_at s (chosen_of s)).loads) j)
unfolding choice_of
runs_chosen s i j l m = go (ltb k entries) (ltb n entries) refl refl
  where
    k : ℕ
    k = chosen_of s

    n : ℕ
    n = first_pending (entry_at s k).loads

    go : (a b : Bool) → ltb k entries ≡ a → ltb n entries ≡ b → runsb (pick a (pick b (Running k n) (Burning k)) Idle) i j ≡ both (eqb k i) (eqb n j)
    go true true p q = refl
    go true false p q = rw (ne_eqb n j (λ e. omega (arith, ltb-false n entries q))) (sym (both_false (eqb k i)))
    go false b p q = rw (ne_eqb k i (λ e. omega (arith, ltb-false k entries p)))

module _ (s : State) (z : SizedState s) (h : stateb s ≡ true) (i : ℕ) (l : i < entries) where
  parts : Stated s
  parts = (stated s record { servers = z.table.servers; entries = z.servers }).0 h

  -- the entry before step 4
  abbrev pub before : Entry
  before = get_or (refilled (full_at s) (due_in s.refills) (charged_entries s)) i zero_entry

  -- what the tick makes of it, but for the budget, which may be given up
  pub after : {A : Type 0} (f : Entry → A) → ((e : Entry) → f (with_budget 0 e) ≡ f e) → f (entry_at (state_after s) i) ≡ f (served4 (server_at s i) before)
  unfolding state_after
  after f k =
      let n = before_length s ∙ z.servers in
      ap f (lapsed_at s.table.servers (handled_entries s) i)
      ∙ lapsed_keeps (server_at s i) (get_or (handled_entries s) i zero_entry) f (k _)
      ∙ ap f (each_at served4 s.table.servers _ i (omega (arith, z.table.servers)) (omega arith))

  pub same_arrivals : before.arrivals ≡ (entry_at s i).arrivals
  unfolding charge
  same_arrivals =
      refilled_keeps (λ (e : Entry). e.arrivals) (λ n e. refl) (full_at s) (due_in s.refills) (charged_entries s) i
      ∙ alter_keeps charge (λ (e : Entry). e.arrivals) (λ e. refl) s.entries (chosen_of s) i zero_entry

  same_loads : before.loads ≡ (get_or (charged_entries s) i zero_entry).loads
  same_loads = refilled_keeps (λ (e : Entry). e.loads) (λ n e. refl) (full_at s) (due_in s.refills) (charged_entries s) i

  pub full_loads : length before.loads ≡ entries
  full_loads =
      ap length same_loads
      ∙ alter_keeps charge (λ (e : Entry). length e.loads) charge_count s.entries (chosen_of s) i zero_entry
      ∙ z.loads i l

  pub queue : HeldEach (task_reaches (server_at s i).tasks) (entry_at s i).arrivals
  queue = (held_each (task_reaches (server_at s i).tasks) (entry_at s i).arrivals).0 ((entry_stated (server_at s i) (entry_at s i)).0 (parts.entry i l)).arrivals

  pub turned : Moved (task_delay (server_at s i)) (entry_at s i).arrivals (entry_at (state_after s) i).arrivals
  unfolding served4
  turned =
      let m = held_moved (task_delay (server_at s i)) (task_reaches (server_at s i).tasks) (entry_at s i).arrivals queue (λ j r. (task_delayed (server_at s i) (every_server s.table parts.servers i l) j r).1) in
      rw (after (λ (e : Entry). e.arrivals) (λ e. refl), same_arrivals) m

  module _ (j : ℕ) (m : j < entries) where
    -- after step 3
    pub charged_load : get_or before.loads j zero_load ≡ pick (runsb (choice_of s) i j) (less_work (load_at s i j)) (load_at s i j)
    unfolding charge
    charged_load =
        let k = chosen_of s in
        let e = entry_at s i in
        rw (same_loads, read_altered charge s.entries k i zero_entry (omega (arith, z.servers)), runs_chosen s i j l m) (go (eqb k i) refl)
      where
        go : (b : Bool) → eqb (chosen_of s) i ≡ b
            → get_or (pick b (charge (entry_at s i)) (entry_at s i)).loads j zero_load ≡ pick (both b (eqb (first_pending (entry_at s (chosen_of s)).loads) j)) (less_work (load_at s i j)) (load_at s i j)
        go true p =
            rw (eqb-true (chosen_of s) i p)
            (read_altered less_work (entry_at s i).loads (first_pending (entry_at s i).loads) j zero_load (omega (arith, z.loads i l)))
        go false p = refl

-- THE HANDLED COUNT

earlier_due : (es : List Event) → dueb es ≡ false → length (due_ids (earlier es)) ≡ due_next es
earlier_due [] d = refl
earlier_due (e ∷ es) d =
    let a : 1 ≤ e.at = not_due e es d in
    rw (one_away (e.at - 1) e.at (omega arith)) (go (eqb e.at 1) (earlier_due es (neither_right (eqb e.at 0) _ d)))
  where
    go : (b : Bool) → length (due_ids (earlier es)) ≡ due_next es → length (pick b (e.id ∷ due_ids (earlier es)) (due_ids (earlier es))) ≡ pick b 1 0 + due_next es
    go true r = omega arith
    go false r = omega arith

pub held_next : (reach : List ℕ) (q : Queue) → holdsb max_gap longest reach q ≡ true → length (due_in q) ≡ due_next (events_of q)
held_next reach q h =
    let k = (held_each reach q).0 h in
    let n = held_rests reach q k in
    let e : events_of (clocked q) ≡ earlier (events_of q) = clock_events max_gap longest q (omega arith) ((clock_accepted max_gap longest q).1 (k.sound, n)) in
    rw e (earlier_due (events_of q) n)

pub entries_next : (ss : List Server) (es : List Entry) → length es ≤ length ss → entriesb ss es ≡ true → due_events es ≡ all_due_next es
entries_next ss [] l h = refl
entries_next [] (e ∷ es) l h = absurd (omega arith)
entries_next (s ∷ ss) (e ∷ es) l h =
    rw (held_next (task_reaches s.tasks) e.arrivals ((entry_stated s e).0 (both_left _ _ h)).arrivals, entries_next ss es (omega arith) (both_right (entryb s e) _ h))
