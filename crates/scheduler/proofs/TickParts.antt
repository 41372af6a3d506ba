-- A tick of a sound state, part by part: the choice and the charge, and step 4 over the servers' queues, entry by entry. Each law takes what the code reads and
-- stores. Assumes nothing.
use mathlib.Core.Path.{◌≡◌, refl, sym, ap, ◌∙◌}
use mathlib.Core.Bool.{true}
use mathlib.Core.List.{List, [], ◌∷◌, ◌++◌}
use Prim.Native.Nat.{ℕ, zero, suc, ◌+◌, ◌*◌, ◌≤◌, ◌<◌}
use native.Mathlib.Numerals.{add-one}
use native.Mathlib.Omega.{arith}
use lib.ListN.{length, get_or, set, take, drop}
use lib.Seq.{take-suc, take_all}
use borrow.Author.Tests.{le-ltb, lt-ltb, ltb-true}
use Rattle.std.specs.Prelude.{Some, None}
use Rattle.small.specs.Small.{alter, sum_below}
use Rattle.small.proofs.Tests.{both_right}
use Rattle.small.proofs.Altered.{set_alter, length_alter, alter_past}
use Rattle.small.proofs.Lists.{get_or_inside, firsts, firsts_at, firsts_more, firsts_all}
use Rattle.queue.specs.declared.Queue.{Queue}
use Rattle.table.specs.Limits.{entries}
use Rattle.table.specs.Table.{zero_server}
use Rattle.table.specs.declared.Server.{Server}
use Rattle.table.specs.declared.Table.{Table}
use Rattle.state.specs.State.{zero_entry, with_budget, full_at, server_at, entry_at}
use Rattle.state.specs.Sound.{entryb, entriesb}
use Rattle.state.specs.Choice.{place_in, first_pending, readyb, wantsb, chosen_of, choice_of}
use Rattle.state.specs.Polling.{lapsed}
use Rattle.state.specs.declared.Choice.TheVariants.{Idle, Burning, Running}
use Rattle.state.specs.declared.Entry.{Entry}
use Rattle.state.specs.declared.State.{State}
use Rattle.state.proofs.Sizes.{past_entry}
use Rattle.state.proofs.Places.{place_there, place_none}
use Rattle.state.proofs.Stated.{every_server, Eight, paired_from, stated, state_parts}
use Rattle.state.proofs.Choosing.{FirstOf, first_ready}
use Rattle.scheduler.specs.Arrive.{with_entries}
use Rattle.scheduler.specs.Tick.{charge, refilled, due_in, due_events, served4, each_entry, state_after, handled_of}
use Rattle.scheduler.specs.Moves.{EntryTurn, Ticking, Refillable, tabledb, served_turn, ended_turn, refills_after, charged_entries, handled_entries}
use Rattle.table.proofs.Sizes.{past_server}
use Rattle.scheduler.proofs.LapsedEntries.{lapsed_length, each_twice}
use Rattle.scheduler.proofs.TickSound.{before_sound}
use Rattle.scheduler.proofs.KeptSizes.{served_length, before_length}
use Rattle.scheduler.proofs.TaskLaws.{each_at}
use Rattle.scheduler.proofs.Refilling.{refills_few}
use Rattle.scheduler.proofs.Arrivals.{tabled, served_few}

-- STEP 4 OVER THE SERVERS' QUEUES

-- what it makes of the entry at a place, and how many of its arrivals are due
abbrev pub turn_at : Table → List Entry → ℕ → EntryTurn
turn_at t es i = ended_turn (get_or t.servers i zero_server) (get_or es i zero_entry)

-- a table and entries that are sound, place by place
pub record Fitting (t : Table) (es : List Entry) : Type 0 where
  pub servers : length t.servers ≡ entries
  pub full : length es ≡ entries
  pub tabled : (i : ℕ) → i < entries → tabledb (get_or t.servers i zero_server) ≡ true
  pub sound : (i : ℕ) → i < entries → entryb (get_or t.servers i zero_server) (get_or es i zero_entry) ≡ true

-- the first i entries have been served, the others are as they were, and n counts the arrivals of those beside what was handled before
pub record Serving (t : Table) (es₀ : List Entry) (n₀ : ℕ) (es : List Entry) (n i : ℕ) : Type 0 where
  pub fitting : Fitting t es₀
  pub place : i ≤ entries
  pub served : es ≡ firsts (λ j. (turn_at t es₀ j).entry) i ++ drop i es₀
  pub handled : n ≡ n₀ + sum_below (λ j. (turn_at t es₀ j).handled) i
  pub few : n ≤ entries + entries * i

pub serve_start : {t : Table} {es : List Entry} {n : ℕ} → Fitting t es → n ≤ entries → Serving t es n es n 0
unfolding sum_below
serve_start f h = record { fitting = f; place = omega arith; served = refl; handled = omega arith; few = omega arith }

module _ {t : Table} {es₀ es : List Entry} {n₀ n i : ℕ} (v : Serving t es₀ n₀ es n i) (l : i < entries) where
  -- what the code reads at i, which is as it was
  abbrev server : Server
  server = get_or t.servers i past_server

  abbrev entry : Entry
  entry = get_or es i past_entry

  server_is : server ≡ get_or t.servers i zero_server
  server_is = get_or_inside t.servers i past_server zero_server (omega (arith, v.fitting.servers))

  inside : i < length es₀
  inside = omega (arith, v.fitting.full)

  entry_is : entry ≡ get_or es₀ i zero_entry
  entry_is =
      ap (λ (x : List Entry). get_or x i past_entry) v.served
      ∙ firsts_at (λ j. (turn_at t es₀ j).entry) es₀ i past_entry inside
      ∙ get_or_inside es₀ i past_entry zero_entry inside

  pub serve_tabled : tabledb server ≡ true
  serve_tabled = rw server_is (v.fitting.tabled i l)

  pub serve_sound : entryb server entry ≡ true
  serve_sound = rw (server_is, entry_is) (v.fitting.sound i l)

  pub serve_few : (ended_turn server entry).handled ≤ entries
  unfolding ended_turn served_turn
  serve_few = served_few server entry serve_tabled serve_sound

  -- it is served
  pub serve_more : (r : EntryTurn) → r ≡ ended_turn server entry → Serving t es₀ n₀ (set es i r.entry) (n + r.handled) (i + 1)
  unfolding sum_below
  serve_more r d =
      let e : r ≡ turn_at t es₀ i = d ∙ (λ k. ended_turn (server_is k) (entry_is k)) in
      let m : sum_below (λ j. (turn_at t es₀ j).handled) (i + 1) ≡ sum_below (λ j. (turn_at t es₀ j).handled) i + (turn_at t es₀ i).handled = rw add-one in
      let g : r.handled ≡ (turn_at t es₀ i).handled = ap (λ (x : EntryTurn). x.handled) e in
      let f : r.handled ≤ entries = rw d serve_few in
      record {
        fitting = v.fitting;
        place = omega arith;
        served = (λ k. set (v.served k) i (e k).entry) ∙ firsts_more (λ j. (turn_at t es₀ j).entry) es₀ i zero_entry inside;
        handled = omega (arith, v.handled);
        few = omega (arith, v.few);
      }

-- THE HANDLED COUNT

-- a change that leaves the queues as they are leaves what is due in them
due_altered : (f : Entry → Entry) → ((e : Entry) → (f e).arrivals ≡ e.arrivals) → (es : List Entry) (i : ℕ) → due_events (alter f es i) ≡ due_events es
due_altered f k [] i = refl
due_altered f k (e ∷ es) zero = ap (λ (q : Queue). length (due_in q) + due_events es) (k e)
due_altered f k (e ∷ es) (suc i) = ap (λ (n : ℕ). length (due_in e.arrivals) + n) (due_altered f k es i)

due_refilled : (full : ℕ → ℕ) (ids : List ℕ) (es : List Entry) → due_events (refilled full ids es) ≡ due_events es
due_refilled full [] es = refl
due_refilled full (id ∷ ids) es = due_refilled full ids _ ∙ due_altered (with_budget (full id)) (λ e. refl) es id

due_append : (es fs : List Entry) → due_events (es ++ fs) ≡ due_events es + due_events fs
due_append [] fs = omega arith
due_append (e ∷ es) fs = omega (arith, due_append es fs)

due_sum : (t : Table) (es : List Entry) (i : ℕ) → i ≤ length es → due_events (take i es) ≡ sum_below (λ j. (turn_at t es j).handled) i
unfolding sum_below ended_turn
due_sum t es zero h = refl
due_sum t es (suc i) h =
    let l : i < length es = omega arith in
    rw (take-suc es i zero_entry l, due_append, due_sum t es i (omega arith)) (omega arith)

-- STEPS 1 TO 3

module _ (s : State) (k : Ticking s) where
  z : Eight s
  z = record { servers = k.sized.table.servers; entries = k.sized.servers }

  -- the chosen one is the first that is ready
  chosen_first : FirstOf (λ (i : ℕ). readyb (server_at s i).kind (entry_at s i)) (length s.table.servers) (chosen_of s)
  unfolding chosen_of
  chosen_first = first_ready s.table.servers s.entries (omega (arith, z.servers, z.entries)) zero_server zero_entry

  -- one is: what the code reads of its entry, which has budget
  module _ {i : ℕ} (c : place_in (chosen_of s) ≡ Some i) where
    abbrev chosen : Entry
    chosen = get_or s.entries i past_entry

    there : (chosen_of s ≡ i) × (i < entries)
    there = place_there (chosen_of s) i c

    within : i < length s.entries
    within = omega (arith, there.1, z.entries)

    chosen_is : chosen ≡ entry_at s (chosen_of s)
    chosen_is = get_or_inside s.entries i past_entry zero_entry within ∙ sym (ap (entry_at s) there.0)

    pub chosen_budget : 0 < chosen.budget.0
    chosen_budget =
        let h = chosen_first.here (omega (arith, z.servers, there.0, there.1)) in
        rw chosen_is (ltb-true 0 (entry_at s (chosen_of s)).budget.0 (both_right (wantsb (server_at s (chosen_of s)).kind (entry_at s (chosen_of s))) _ h))

    pub chosen_loads : length chosen.loads ≡ entries
    chosen_loads = rw chosen_is (k.sized.loads (chosen_of s) (omega (arith, there.0, there.1)))

    pub charge_one : {e : Entry} → e ≡ charge chosen → record { entries = set s.entries i e; table = s.table; refills = s.refills } ≡ with_entries (charged_entries s) s
    charge_one e =
        let x = ap (set s.entries i) e ∙ set_alter charge s.entries i past_entry within ∙ sym (ap (alter charge s.entries) there.0) in
        λ k. record { entries = x k; table = s.table; refills = s.refills }

    -- what is answered where in it task j is charged, and where none is

    pub says_running : {j : ℕ} → place_in (first_pending chosen.loads) ≡ Some j → Running i j ≡ choice_of s
    unfolding choice_of
    says_running {j} h =
        let q = place_there (first_pending (entry_at s (chosen_of s)).loads) j (rw chosen_is at h) in
        rw (q.0, there.0, lt-ltb i entries there.1, lt-ltb j entries q.1)

    pub says_burning : place_in (first_pending chosen.loads) ≡ None → Burning i ≡ choice_of s
    unfolding choice_of
    says_burning h =
        let q = place_none (first_pending (entry_at s (chosen_of s)).loads) (rw chosen_is at h) in
        rw (le-ltb (first_pending (entry_at s (chosen_of s)).loads) entries q, there.0, lt-ltb i entries there.1)

  -- none is
  module _ (c : place_in (chosen_of s) ≡ None) where
    pub charge_none : s ≡ with_entries (charged_entries s) s
    charge_none =
        let x = sym (alter_past charge s.entries (chosen_of s) (omega (arith, z.entries, place_none (chosen_of s) c))) in
        λ k. record { entries = x k; table = s.table; refills = s.refills }

    pub says_idle : Idle ≡ choice_of s
    unfolding choice_of
    says_idle = rw (le-ltb (chosen_of s) entries (place_none (chosen_of s) c))

  -- STEP 4

  abbrev charged : State
  charged = with_entries (charged_entries s) s

  pub charged_refillable : Refillable charged
  charged_refillable =
      let p = (state_parts s).0 k.sound in
      record { servers = z.servers; entries = length_alter charge s.entries (chosen_of s) ∙ z.entries; table = p.table; refills = p.refills }

  -- the entries after the replenishments
  abbrev before : List Entry
  before = refilled (full_at s) (due_in s.refills) (charged_entries s)

  before_fitting : Fitting s.table before
  before_fitting =
      let l : length before ≡ entries = before_length s ∙ z.entries in
      let e : entriesb s.table.servers before ≡ true = before_sound s k.sound in
      record {
        servers = z.servers;
        full = l;
        tabled = λ i m. (tabled _).1 (every_server s.table ((stated s z).0 k.sound).servers i m);
        sound = λ i m. paired_from entryb s.table.servers before e i (omega (arith, z.servers)) (omega arith);
      }

  -- where all entries have been handled the tick is done
  module _ {n₀ n : ℕ} {es : List Entry} (v : Serving s.table before n₀ es n entries) where
    tick_entries : es ≡ each_entry lapsed s.table.servers (handled_entries s)
    unfolding ended_turn
    tick_entries =
        let f = v.fitting in
        let ss = s.table.servers in
        let g : Server → Entry → Entry = λ s e. lapsed s (served4 s e) in
        let twice = each_twice lapsed served4 ss before in
        let l : length (each_entry g ss before) ≡ entries = ap length (sym twice) ∙ lapsed_length ss (each_entry served4 ss before) ∙ served_length ss before ∙ f.full in
        let all =
        firsts_all (λ j. (turn_at s.table before j).entry) before (each_entry g ss before) zero_entry entries (omega (arith, f.full)) l
        (λ j h. each_at g ss before j (omega (arith, f.servers)) (omega (arith, f.full))) in
        v.served ∙ all ∙ sym twice

    tick_count : n₀ ≡ length (due_in s.refills) → n ≡ handled_of s
    unfolding handled_of charge
    tick_count r =
        let f = v.fitting in
        let t : take entries before ≡ before = take_all entries before (omega (arith, f.full)) in
        let a : sum_below (λ j. (turn_at s.table before j).handled) entries ≡ due_events before = rw (← due_sum s.table before entries (omega (arith, f.full)), t) in
        let b : due_events before ≡ due_events s.entries = rw due_refilled (due_altered charge (λ x. refl) s.entries (chosen_of s)) in
        omega (arith, v.handled, r)

  -- the state m and the count n₀ are those after the replenishments
  module _ {m : State} {n₀ : ℕ} (e : m ≡ refills_after charged) (r : n₀ ≡ length (due_in s.refills)) where
    pub handle_start : Serving m.table m.entries n₀ m.entries n₀ 0
    handle_start =
        let c = charged_refillable in
        rw e (serve_start before_fitting (omega (arith, r, refills_few charged c.table c.refills)))

    pub tick_done : {x : State} {n : ℕ} → Serving m.table m.entries n₀ x.entries n entries → x.table ≡ m.table → x.refills ≡ m.refills
        → (x ≡ state_after s) × (n ≡ handled_of s)
    unfolding state_after
    tick_done {x} v t q =
        let w = rw e at v in
        let d = tick_entries w in
        let u = t ∙ ap (λ (y : State). y.table) e in
        let p = q ∙ ap (λ (y : State). y.refills) e in
        (λ i. record { entries = d i; table = u i; refills = p i }, tick_count w r)
