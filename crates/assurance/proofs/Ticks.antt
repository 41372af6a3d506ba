-- Demand 3's three parts, of the windows of any row of ticks that do what the scheduler's laws say. Assumes nothing.
use mathlib.Core.Path.{◌≡◌, refl, ◌∙◌}
use mathlib.Core.Logic.{◌⊎◌, inl, inr}
use mathlib.Core.Bool.{Bool, true, false, not}
use Prim.Native.Nat.{ℕ, zero, suc, ◌+◌, ◌-◌, ◌*◌, ◌≤◌, ◌<◌, min}
use native.Mathlib.Decide.{dec_lt}
use native.Mathlib.Omega.{arith}
use lib.Dec.{ltb, eqb}
use borrow.Author.Tests.{eqb-true, eq-eqb, ltb-true, lt-ltb}
use Rattle.small.specs.Small.{pick, both, sum_below, num}
use Rattle.small.proofs.Tests.{both_right, both_false}
use Rattle.small.proofs.Sums.{sum_term}
use Rattle.table.specs.declared.Table.{Table}
use Rattle.state.specs.State.{entry_at}
use Rattle.state.specs.Choice.{some_pending, servesb}
use Rattle.state.specs.Meaning.{ready_at, budget_at, lapses_at, refill_away, Highest, Chosen}
use Rattle.state.specs.declared.State.{State}
use Rattle.state.specs.declared.Choice.{Choice}
use Rattle.state.specs.declared.Choice.TheVariants.{Idle, Burning, Running}
use Rattle.table.specs.Table.{period_in, budget_in}
use Rattle.assurance.specs.Demand3.{most_held, sure, wants_at}
use Rattle.assurance.proofs.Account.{Account, counted, most, busy, last, charged_to}

-- THE INTERFACE: what the scheduler's laws say of one tick, for demand 3 to hold of every row of ticks

-- of server i, from the state s to the state w: what it was served is gone from its budget, or the budget given up, and its refill is one tick nearer
abbrev pub Nearer : State → Choice → State → ℕ → Type 0
Nearer s c w i = (budget_at w i ≡ pick (lapses_at w i) 0 (budget_at s i - num (servesb c i))) × (refill_away w i ≡ refill_away s i - 1)

-- its budget is full, or given up, and its refill a period away: so begins each of its periods
abbrev pub Full : Table → State → ℕ → Type 0
Full t w i = (budget_at w i ≡ pick (lapses_at w i) 0 (budget_in t i)) × (refill_away w i ≡ period_in t i)

-- One tick, from the state s to the state w at its end: the highest ready server is charged, then every refill comes one tick nearer, and one that is due sets
-- the budget to its size. At last some budgets are given up.
pub record OneTick (t : Table) (s : State) (c : Choice) (w : State) : Type 0 where
  pub first : Chosen s c
  pub spent : (i : ℕ) → i < t.count → 1 < refill_away s i → Nearer s c w i
  pub filled : (i : ℕ) → i < t.count → refill_away s i ≡ 1 → Full t w i

-- Two states of the table t, v being w with the arrivals since: no budget and no refill changes, and no work is taken away. More is not said of what v's
-- servers want: that is up to arrivals.
pub record Since (t : Table) (w v : State) : Type 0 where
  pub tables : (w.table ≡ t) × (v.table ≡ t)
  pub budget : (i : ℕ) → budget_at v i ≡ budget_at w i
  pub refill : (i : ℕ) → refill_away v i ≡ refill_away w i
  pub work : (i : ℕ) → some_pending (entry_at w i).loads ≡ true → some_pending (entry_at v i).loads ≡ true

-- N ticks: v x is the state before tick x, c x is whom tick x serves, and u x is the end of the tick before it
pub record Run (t : Table) (N : ℕ) (u v : ℕ → State) (c : ℕ → Choice) : Type 0 where
  pub periods : (i : ℕ) → i < t.count → 0 < period_in t i
  pub start : (i : ℕ) → i < t.count → (0 < refill_away (u 0) i) × (budget_at (u 0) i ≤ budget_in t i)
  pub since : (x : ℕ) → x ≤ N → Since t (u x) (v x)
  pub tick : (x : ℕ) → x < N → OneTick t (v x) (c x) (u (suc x))

-- ONE TICK

num_le : (b : Bool) → num b ≤ 1
num_le true = omega arith
num_le false = omega arith

served_ready : (s : State) (c : Choice) → Chosen s c → (i : ℕ) → servesb c i ≡ true → ready_at s i ≡ true
served_ready s Idle f i e = cc
served_ready s (Burning k) f i e = rw (← eqb-true k i e) f.0.ready
served_ready s (Running k j) f i e = rw (← eqb-true k i e) f.0.ready

-- only a server with budget is served
charged : (s : State) (c : Choice) → Chosen s c → (i : ℕ) → num (servesb c i) ≤ budget_at s i
charged s c f i = go (servesb c i) refl
  where
    go : (b : Bool) → servesb c i ≡ b → num b ≤ budget_at s i
    go false e = omega arith
    go true e = omega (arith, ltb-true 0 (budget_at s i) (both_right (wants_at s i) (ltb 0 (budget_at s i)) (served_ready s c f i e)))

-- a budget that may be given up is at most what it would be
pub at_most : (b : Bool) {m n : ℕ} → m ≡ pick b 0 n → m ≤ n
at_most true e = omega arith
at_most false e = omega arith

-- one that wants and has budget is served or held off
one : (w : Bool) (b : ℕ) (r : Bool) → w ≡ true → 0 < b → 1 ≤ num r + num (both (both w (ltb 0 b)) (not r))
one w b true e h = omega arith
one w b false e h = rw (e, lt-ltb 0 b h) (omega arith)

-- a server that is ready and not served gives way to one above it
behind : (s : State) (k : ℕ) → Highest s k → (i : ℕ) → num (both (ready_at s i) (not (eqb k i))) ≤ sum_below (λ j. num (eqb k j)) i
behind s k f i = go (dec_lt k i) (dec_lt i k)
  where
    go : Dec (k < i) → Dec (i < k) → num (both (ready_at s i) (not (eqb k i))) ≤ sum_below (λ j. num (eqb k j)) i
    go (yes h) _ =
        let one : 1 ≤ sum_below (λ j. num (eqb k j)) i = rw (eq-eqb k k refl) at (sum_term (λ j. num (eqb k j)) i k h) in
        omega (arith, num_le (both (ready_at s i) (not (eqb k i))))
    go (no h) (yes g) = rw (f.above i g) (omega arith)
    go (no h) (no g) = rw (eq-eqb k i (omega arith), both_false (ready_at s i)) (omega arith)

gives_way : (s : State) (c : Choice) → Chosen s c → (i : ℕ) → num (both (ready_at s i) (not (servesb c i))) ≤ sum_below (λ j. num (servesb c j)) i
gives_way s Idle f i = rw (f i) (omega arith)
gives_way s (Burning k) f i = behind s k f.0 i
gives_way s (Running k j) f i = behind s k f.0 i

-- A WINDOW OF A RUN

abbrev pub ran : (ℕ → Choice) → ℕ → ℕ → Bool
ran c i x = servesb (c x) i

abbrev pub missed : (ℕ → State) → (ℕ → Choice) → ℕ → ℕ → Bool
missed v c i x = both (ready_at (v x) i) (not (servesb (c x) i))

module _ (t : Table) (N : ℕ) (u v : ℕ → State) (c : ℕ → Choice) (R : Run t N u v c) where
  -- one tick, from the end of the tick before on

  charge : (i x : ℕ) → x < N → num (ran c i x) ≤ budget_at (u x) i
  charge i x h = omega (arith, charged (v x) (c x) (R.tick x h).first i, (R.since x (omega arith)).budget i)

  spent : (i : ℕ) → i < t.count → (x : ℕ) → x < N → 1 < refill_away (u x) i → Nearer (u x) (c x) (u (suc x)) i
  spent i l x h d =
      let s = R.since x (omega arith) in
      rw (s.budget i, s.refill i) at ((R.tick x h).spent i l (rw (s.refill i) d))

  filled : (i : ℕ) → i < t.count → (x : ℕ) → x < N → refill_away (u x) i ≡ 1 → Full t (u (suc x)) i
  filled i l x h d = (R.tick x h).filled i l ((R.since x (omega arith)).refill i ∙ d)

  account : (i : ℕ) → i < t.count → Account (period_in t i) (budget_in t i) N (λ x. budget_at (u x) i) (λ x. refill_away (u x) i) (ran c i)
  account i l = record {
    period = R.periods i l;
    start = R.start i l;
    charge = charge i;
    nearer = λ x h d. let o = spent i l x h d in omega (arith, o.1, at_most (lapses_at (u (suc x)) i) o.0, charge i x h);
    refill = λ x h d. let o = filled i l x h d in (o.1, at_most (lapses_at (u (suc x)) i) o.0);
  }

  module _ (i : ℕ) (l : i < t.count) where
    pub most_run : (b : ℕ) → Full t (u b) i → (n : ℕ) → n ≤ period_in t i → b + n ≤ N → counted (ran c i) b n ≤ budget_in t i
    most_run b f n h g = omega (arith, most (account i l) b n (omega (arith, f.1)) g, at_most (lapses_at (u b) i) f.0)

    -- the ticks on which i is held off are ticks of servers above it
    pub held : (b n : ℕ) → n ≤ period_in t i → b + n ≤ N → counted (missed v c i) b n ≤ most_held t i
    unfolding most_held
    held b n h g = charged_to i N (period_in t) (budget_in t) (λ j x. budget_at (u x) j) (λ j x. refill_away (u x) j) (ran c) (λ j m. account j (omega arith))
        (missed v c i) (λ x m. gives_way (v x) (c x) (R.tick x m).first i) (period_in t i) b n h g

    -- where nothing is given up at the end of the tick before the period and of each of its ticks but the last, and each tick with budget is wanted
    pub least : (b : ℕ) → Full t (u b) i → b + period_in t i ≤ N
        → ((x : ℕ) → b ≤ x → x < b + period_in t i → lapses_at (u x) i ≡ false)
        → ((x : ℕ) → b ≤ x → x < b + period_in t i → 0 < budget_at (v x) i → wants_at (v x) i ≡ true)
        → sure t i ≤ counted (ran c i) b (period_in t i)
    unfolding sure
    least b f g k w = go (held b (period_in t i) (omega arith) g) (busy (account i l) (missed v c i) b (period_in t i) (omega (arith, f.1)) g
        (λ x h d. omega (arith, rw (k (suc (b + x)) (omega arith) (omega arith)) at (spent i l (b + x) (omega arith) d).0, charge i (b + x) (omega arith)))
        (λ x h d.
        let e : 0 < budget_at (v (b + x)) i = omega (arith, (R.since (b + x) (omega arith)).budget i) in
        one (wants_at (v (b + x)) i) (budget_at (v (b + x)) i) (ran c i (b + x)) (w (b + x) (omega arith) (omega arith) e) e))
      where
        full : budget_at (u b) i ≡ budget_in t i
        full = rw (k b (omega arith) (omega (arith, R.periods i l))) at f.0

        go : {x y z p : ℕ} → z ≤ y → (p ≤ x + z) ⊎ (budget_at (u b) i ≤ x) → min (budget_in t i) (p - y) ≤ x
        go h (inl d) = omega arith
        go h (inr d) = omega (arith, full)

    -- full at the next refill, and again after each period
    refilled : (b : ℕ) → b + refill_away (u b) i ≤ N → Full t (u (b + refill_away (u b) i)) i
    refilled b g = let (x, e, d) = last (account i l) b g in rw e (filled i l x (omega arith) d)

    pub starts : Full t (u 0) i → (k : ℕ) → k * period_in t i ≤ N → Full t (u (k * period_in t i)) i
    starts f zero h = let e : 0 * period_in t i ≡ 0 = omega arith in rw e f
    starts f (suc k) h =
        let b = k * period_in t i in
        let ih = (starts f k (omega arith)).1 in
        let e : suc k * period_in t i ≡ b + refill_away (u b) i = omega arith in
        rw e (refilled b (omega arith))
