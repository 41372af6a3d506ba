-- Every history of calls from a sound state is a row of ticks that do what the scheduler's laws say. Assumes nothing.
use mathlib.Core.Path.{◌≡◌, refl, ap, ◌∙◌}
use mathlib.Core.Bool.{true}
use mathlib.Core.List.{List, [], ◌∷◌, ◌++◌, map}
use Prim.Native.Nat.{ℕ, zero, suc, ◌+◌, ◌-◌, ◌≤◌, ◌<◌}
use native.Mathlib.Nat.{zero-add, suc-add}
use native.Mathlib.Omega.{arith}
use lib.ListN.{length, take, drop, get_or, replicate, length-map}
use lib.Seq.{drop-cons}
use Rattle.small.proofs.Lists.{map_drop, map_less}
use Rattle.queue.specs.Limits.{longest}
use Rattle.queue.specs.declared.Queue.{Queue}
use Rattle.queue.specs.Meaning.{away}
use Rattle.table.specs.Limits.{most_work}
use Rattle.table.specs.Sound.{tableb}
use Rattle.table.specs.Meaning.{Sized}
use Rattle.table.specs.declared.Table.{Table}
use Rattle.table.proofs.Soundness.{table_sound}
use Rattle.state.specs.Sound.{stateb}
use Rattle.state.specs.Fresh.{fresh_state, fresh_of}
use Rattle.state.specs.Meaning.{SizedState, lapses_at}
use Rattle.state.specs.declared.State.{State}
use Rattle.state.specs.declared.Choice.{Choice}
use Rattle.state.specs.declared.Choice.TheVariants.{Idle}
use Rattle.state.proofs.Keeps.{fresh_sound}
use Rattle.state.proofs.FreshSizes.{fresh_sized}
use Rattle.state.proofs.Laws.{fresh_made, fresh_budget, fresh_refill, chosen_first}
use Rattle.scheduler.specs.Arrive.{arrive_of}
use Rattle.scheduler.specs.Tick.{tick_of}
use Rattle.scheduler.specs.Run.{ticks_in}
use Rattle.scheduler.proofs.Keeps.{tick_sound, arrive_sound}
use Rattle.scheduler.proofs.TickSound.{tick_accepts}
use Rattle.scheduler.proofs.KeptSizes.{tick_sized, arrive_sized}
use Rattle.scheduler.proofs.Laws.{tick_spent, tick_filled, arrive_budget, arrive_refills, arrive_table, arrive_pending, tick_table}
use Rattle.assurance.specs.History.{Call, tick, run, arrival, Seen, ticks_of, ticks_asked, tick_end, end_before}
use Rattle.table.specs.Table.{period_in}
use Rattle.assurance.proofs.Ticks.{Full, OneTick, Since, Run, at_most}
use Rattle.assurance.proofs.Seeing.{seen_tick}
use Rattle.assurance.proofs.RunTicks.{run_ticks}

-- sound, with its arrays' lengths, and of the table t
pub record SoundOf (t : Table) (s : State) : Type 0 where
  pub table : s.table ≡ t
  pub sized : SizedState s
  pub sound : stateb s ≡ true

-- A ROW of ticks from the state s to the state e: each does what the laws say, and between two of them there are arrivals only
abbrev Row : Table → State → List Seen → State → Type 0
Row t s [] e = Since t s e
Row t s (x ∷ xs) e = Since t s x.state × OneTick t x.state x.choice (tick_end x) × Row t (tick_end x) xs e

-- n ticks in a row
pub record Rowed (t : Table) (s : State) (xs : List Seen) (n : ℕ) : Type 0 where
  pub end : State
  pub row : Row t s xs end
  pub number : length xs ≡ n

-- tick x of a row that ends at e: behind the last one, that state

abbrev pub no_tick : State → Seen
no_tick e = record { state = e; choice = Idle }

abbrev pub state_at : State → List Seen → ℕ → State
state_at e xs x = (get_or xs x (no_tick e)).state

abbrev pub choice_at : State → List Seen → ℕ → Choice
choice_at e xs x = (get_or xs x (no_tick e)).choice

-- the ends of the ticks of a row from the state s on, each one place late

abbrev pub ends_of : State → List Seen → List State
ends_of s xs = s ∷ map tick_end xs

abbrev pub end_at : State → State → List Seen → ℕ → State
end_at e s xs x = get_or (ends_of s xs) x e

-- of a period that is whole: the end before it and the ends of its ticks but the last are as many of these from its begin on

end_before_lem : (s : State) (xs : List Seen) (b : ℕ) → end_before s xs b ≡ get_or (ends_of s xs) b s
end_before_lem s xs zero = refl
end_before_lem s xs (suc b) = refl

pub ends_whole : (s : State) (xs : List Seen) (b P : ℕ) → 0 < P → b + P ≤ length xs
    → end_before s xs b ∷ map tick_end (take (P - 1) (take P (drop b xs))) ≡ take P (drop b (ends_of s xs))
ends_whole s xs b zero l h = absurd (omega arith)
ends_whole s xs b (suc p) l h =
    let g : b < length (ends_of s xs) = omega (arith, length-map xs tick_end) in
    let e : suc p - 1 ≡ p = omega arith in
    rw (e, drop-cons (ends_of s xs) b s g, ← end_before_lem s xs b, map_drop tick_end b xs) (ap (λ ys. end_before s xs b ∷ ys) (map_less tick_end p (drop b xs)))

module _ (t : Table) where
  -- ONE CALL

  sound_tick : (s : State) → SoundOf t s → SoundOf t (tick_of s).state
  sound_tick s k =
      rw (tick_accepts s k.sound) record { table = tick_table s ∙ k.table; sized = tick_sized s k.sized; sound = tick_sound s k.sound }

  sound_arrival : (s : State) (i j : ℕ) → SoundOf t s → SoundOf t (arrive_of s i j).state
  sound_arrival s i j k = record {
    table = arrive_table s i j ∙ k.table;
    sized = arrive_sized s i j k.sized;
    sound = arrive_sound s k.sound i j;
  }

  since_none : (s : State) → SoundOf t s → Since t s s
  since_none s k = record { tables = (k.table, k.table); budget = λ i. refl; refill = λ i. refl; work = λ i h. h }

  since_arrival : (s w : State) (i j : ℕ) → SoundOf t s → Since t (arrive_of s i j).state w → Since t s w
  since_arrival s w i j k n = record {
    tables = (k.table, n.tables.1);
    budget = λ m. n.budget m ∙ arrive_budget s i j m;
    refill = λ m. n.refill m ∙ ap (λ (q : Queue). away m q) (arrive_refills s i j);
    work = λ m h. n.work m (arrive_pending s i j m h);
  }

  tick_law : (s : State) → SoundOf t s → OneTick t s (tick_of s).choice (tick_of s).state
  tick_law s k = rw (tick_accepts s k.sound) record {
    first = chosen_first s k.sized k.sound;
    spent = λ i l m. let r = tick_spent s k.sized k.sound i (rw k.table l) m in (r.budget, r.refill);
    filled = λ i l m. let r = tick_filled s k.sized k.sound i (rw k.table l) m in rw (← k.table) (r.budget, r.refill);
  }

  -- A ROW OF CALLS

  -- the calls cs, from every sound state
  abbrev Follows : List Call → Type 0
  Follows cs = (s : State) → SoundOf t s → Rowed t s (ticks_of s cs) (ticks_asked cs)

  row_arrival : (s e : State) (i j : ℕ) (xs : List Seen) → SoundOf t s → Row t (arrive_of s i j).state xs e → Row t s xs e
  row_arrival s e i j [] k r = since_arrival s e i j k r
  row_arrival s e i j (x ∷ xs) k r = (since_arrival s x.state i j k r.0, r.1, r.2)

  and_tick : (cs : List Call) (n : ℕ) (s : State) → SoundOf t s → Rowed t (tick_of s).state (ticks_of (tick_of s).state cs) n → Rowed t s (ticks_of s (tick ∷ cs)) (suc n)
  and_tick cs n s h r = rw (seen_tick s h.sound cs) record {
    end = r.end;
    row = (since_none s h, tick_law s h, r.row);
    number = ap suc r.number;
  }

  and_ticks : (cs : List Call) → Follows cs → (n : ℕ) (s : State) → SoundOf t s → Rowed t s (ticks_of s (replicate n tick ++ cs)) (n + ticks_asked cs)
  and_ticks cs f zero s h = rw zero-add (f s h)
  and_ticks cs f (suc n) s h = rw suc-add (and_tick (replicate n tick ++ cs) (n + ticks_asked cs) s h (and_ticks cs f n (tick_of s).state (sound_tick s h)))

  pub history : (cs : List Call) → Follows cs
  unfolding ticks_of ticks_asked
  history [] s h = record { end = s; row = since_none s h; number = refl }
  history (tick ∷ cs) s h = and_tick cs (ticks_asked cs) s h (history cs (tick_of s).state (sound_tick s h))
  history (run k ∷ cs) s h = rw (run_ticks s k cs) (and_ticks cs (λ v g. history cs v g) (ticks_in k) s h)
  history (arrival i j ∷ cs) s h =
      let v = (arrive_of s i j).state in
      let r = history cs v (sound_arrival s i j h) in
      record { end = r.end; row = row_arrival s r.end i j (ticks_of v cs) h r.row; number = r.number }

  -- ITS TICKS

  module _ (e : State) where
    row_since : (s : State) (xs : List Seen) → Row t s xs e → (x : ℕ) → x ≤ length xs → Since t (end_at e s xs x) (state_at e xs x)
    row_since s [] r zero l = r
    row_since s [] r (suc x) l = absurd (omega arith)
    row_since s (y ∷ ys) r zero l = r.0
    row_since s (y ∷ ys) r (suc x) l = row_since (tick_end y) ys r.2 x (omega arith)

    row_tick : (s : State) (xs : List Seen) → Row t s xs e → (x : ℕ) → x < length xs
        → OneTick t (state_at e xs x) (choice_at e xs x) (end_at e s xs (suc x))
    row_tick s [] r x l = absurd (omega arith)
    row_tick s (y ∷ ys) r zero l = r.1
    row_tick s (y ∷ ys) r (suc x) l = row_tick (tick_end y) ys r.2 x (omega arith)

-- FROM A FRESH SETUP

module _ (t : Table) (z : Sized t) (h : tableb longest most_work t ≡ true) where
  pub period_low : (i : ℕ) → i < t.count → 0 < period_in t i
  period_low i l = (((table_sound longest most_work t z).0 h).used i l).period.low

  start : SoundOf t (fresh_of t).state
  unfolding fresh_state
  start = rw (fresh_made t h) record { table = refl; sized = fresh_sized t z; sound = fresh_sound t h }

  pub start_full : (i : ℕ) → Full t (fresh_of t).state i
  unfolding fresh_state
  start_full i = rw (fresh_made t h) (fresh_budget t h i, fresh_refill t h i)

  module _ (cs : List Call) where
    pub fresh_row : Rowed t (fresh_of t).state (ticks_of (fresh_of t).state cs) (ticks_asked cs)
    fresh_row = history t cs (fresh_of t).state start

    abbrev seen_all : List Seen
    seen_all = ticks_of (fresh_of t).state cs

    abbrev end_all : State
    end_all = fresh_row.end

    pub all_run : Run t (length seen_all) (end_at end_all (fresh_of t).state seen_all) (state_at end_all seen_all) (choice_at end_all seen_all)
    all_run = record {
      periods = period_low;
      start = λ i l. let f = start_full i in omega (arith, period_low i l, f.1, at_most (lapses_at (fresh_of t).state i) f.0);
      since = row_since t end_all (fresh_of t).state seen_all fresh_row.row;
      tick = row_tick t end_all (fresh_of t).state seen_all fresh_row.row;
    }
