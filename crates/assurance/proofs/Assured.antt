-- Demand 3 holds, over any calls from a fresh setup: a period is a window of a row of ticks, of which proofs/Ticks.antt has the three parts. Assumes nothing.
use mathlib.Core.Path.{◌≡◌, ◌∙◌}
use mathlib.Core.Bool.{Bool, true, false, not}
use mathlib.Core.List.{List}
use mathlib.Core.Logic.{◌≢◌}
use Prim.Native.Nat.{ℕ, ◌+◌, ◌-◌, ◌*◌, ◌≤◌, ◌<◌, min}
use native.Mathlib.Decide.{dec_le}
use native.Mathlib.Omega.{arith}
use lib.Dec.{ltb}
use lib.ListN.{length, get_or, length-map}
use borrow.Author.Tests.{not-false, lt-ltb}
use Rattle.small.specs.Small.{both, sum_below, num, tally}
use Rattle.queue.specs.Limits.{longest}
use Rattle.table.specs.Kind.{polling_kind}
use Rattle.table.specs.Limits.{most_work}
use Rattle.table.specs.Sound.{tableb}
use Rattle.table.specs.Meaning.{Sized}
use Rattle.table.specs.declared.Table.{Table}
use Rattle.state.specs.State.{server_at, entry_at}
use Rattle.state.specs.Choice.{some_pending}
use Rattle.state.specs.Fresh.{fresh_of}
use Rattle.state.specs.Meaning.{budget_at, lapses_at}
use Rattle.state.specs.declared.State.{State}
use Rattle.state.specs.declared.Choice.{Choice}
use Rattle.state.proofs.Laws.{polling_wants, not_polling, working}
use Rattle.assurance.specs.History.{Call, Seen, ticks_of, ticks_asked, tick_end}
use Rattle.table.specs.Table.{kind_in, period_in, budget_in}
use Rattle.assurance.specs.Demand3.{most_held, sure, period_ticks, period_ends, wants_at, runs, held_off, declines, workless, Demand3}
use Rattle.assurance.proofs.Ticks.{Full, Since, Run, starts, most_run, held, least}
use Rattle.small.proofs.Tallies.{part_length, part_count, part_none}
use Rattle.assurance.proofs.History.{no_tick, state_at, choice_at, ends_of, end_at, ends_whole, period_low, start_full, fresh_row, all_run}

-- one that does not decline a tick wants it, if it has budget
eager : (w : Bool) (b : ℕ) → both (ltb 0 b) (not w) ≡ false → 0 < b → w ≡ true
eager w b h l = not-false w (rw (lt-ltb 0 b l) at h)

pub demand_3 : (t : Table) → tableb longest most_work t ≡ true → Sized t → (calls : List Call) (i : ℕ) → i < t.count → (k : ℕ) → Demand3 t calls i k
unfolding period_ticks period_ends sum_below
demand_3 t h z cs i l k =
    let r = bounds (dec_le b N) in
    record { most = r.0; held = r.1; least = least_other; least_polling = least_polling }
  where
    P : ℕ
    P = period_in t i

    b : ℕ
    b = k * P

    s : State
    s = (fresh_of t).state

    xs : List Seen
    xs = ticks_of s cs

    N : ℕ
    N = length xs

    e : State
    e = (fresh_row t z h cs).end

    u : ℕ → State
    u = end_at e s xs

    v : ℕ → State
    v = state_at e xs

    c : ℕ → Choice
    c = choice_at e xs

    R : Run t N u v c
    R = all_run t z h cs

    m : ℕ
    m = length (period_ticks t cs i k)

    few : m ≡ min P (N - b)
    few = part_length (no_tick e) xs b P

    counts : (p : Seen → Bool) → tally p (period_ticks t cs i k) ≡ sum_below (λ x. num (p (get_or xs (b + x) (no_tick e)))) m
    counts = part_count (no_tick e) xs b P

    full : b ≤ N → Full t (u b) i
    full = starts t N u v c R i l (start_full t z h i) k

    bounds : Dec (b ≤ N) → (tally (runs i) (period_ticks t cs i k) ≤ budget_in t i) × (tally (held_off i) (period_ticks t cs i k) ≤ most_held t i)
    bounds (yes d) = let g = few in (
      rw (counts (runs i)) (most_run t N u v c R i l b (full d) m (omega arith) (omega arith)),
      rw (counts (held_off i)) (held t N u v c R i l b m (omega arith) (omega arith)),
    )
    bounds (no d) = let n : m ≡ 0 = omega (arith, few) in (rw (counts (runs i), n) (omega arith), rw (counts (held_off i), n) (omega arith))

    inside : m ≡ P → b + P ≤ N
    inside whole = omega (arith, few, period_low t z h i l)

    since : m ≡ P → (x : ℕ) → x < b + P → Since t (u x) (v x)
    since whole x o = R.since x (omega (arith, inside whole))

    -- the least amount, of a server that gives nothing up and wants each tick on which it has budget
    least_run : m ≡ P → ((x : ℕ) → b ≤ x → x < b + P → lapses_at (u x) i ≡ false)
        → ((x : ℕ) → b ≤ x → x < b + P → 0 < budget_at (v x) i → wants_at (v x) i ≡ true)
        → sure t i ≤ tally (runs i) (period_ticks t cs i k)
    least_run whole kept wants = rw (counts (runs i), whole) (least t N u v c R i l b (full (omega (arith, inside whole))) (inside whole) kept wants)

    least_other : kind_in t i ≢ polling_kind → m ≡ P → tally (declines i) (period_ticks t cs i k) ≡ 0 → sure t i ≤ tally (runs i) (period_ticks t cs i k)
    least_other p whole none = least_run whole
        (λ x _ o. not_polling (u x) i (rw (since whole x o).tables.0 p))
        (λ x j o. eager (wants_at (v x) i) (budget_at (v x) i) (part_none (no_tick e) xs b P (declines i) none x j o (omega (arith, inside whole))))

    least_polling : kind_in t i ≡ polling_kind → m ≡ P → tally (workless i) (period_ends t cs i k) ≡ 0 → sure t i ≤ tally (runs i) (period_ticks t cs i k)
    least_polling p whole none = least_run whole
        (λ x j o. working (u x) i (work x j o))
        (λ x j o _. polling_wants (server_at (v x) i).kind (entry_at (v x) i) (rw (since whole x o).tables.1 p) ∙ (since whole x o).work i (work x j o))
      where
        work : (x : ℕ) → b ≤ x → x < b + P → some_pending (entry_at (u x) i).loads ≡ true
        work x j o =
            let n = rw (ends_whole s xs b P (period_low t z h i l) (inside whole)) at none in
            not-false _ (part_none e (ends_of s xs) b P (workless i) n x j o (omega (arith, inside whole, length-map xs tick_end)))

-- and no tick of the history is missing: each tick call is accepted, and each run, which has all its ticks
pub all_ticks : (t : Table) → tableb longest most_work t ≡ true → Sized t → (calls : List Call) → length (ticks_of (fresh_of t).state calls) ≡ ticks_asked calls
all_ticks t h z cs = (fresh_row t z h cs).number
