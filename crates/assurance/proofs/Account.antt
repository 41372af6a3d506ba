-- One budget over ticks: it is charged, and refilled each P ticks. How much can be charged to it in a window of ticks. Assumes nothing.
use mathlib.Core.Path.{◌≡◌}
use mathlib.Core.Logic.{◌⊎◌, inl, inr}
use mathlib.Core.Bool.{Bool}
use Prim.Native.Nat.{ℕ, zero, suc, ◌+◌, ◌-◌, ◌*◌, ◌≤◌, ◌<◌}
use native.Mathlib.Nat.{add-zero, add-suc, mod-lt, div-add-mod'}
use native.Mathlib.Decide.{dec_le}
use native.Mathlib.Omega.{arith}
use Rattle.small.specs.Small.{sum_below, num}
use Rattle.small.proofs.Sums.{sum_mono, sum_swap, sum_cut}
use Rattle.assurance.specs.Demand3.{ceil}

pub ceil_covers : (a b : ℕ) → 0 < b → a ≤ ceil a b * b
unfolding ceil
ceil_covers a b h = omega (arith, div-add-mod' (a + (b - 1)) b, mod-lt (a + (b - 1)) h)

-- of the n ticks from b on, those of f
abbrev pub counted : (ℕ → Bool) → ℕ → ℕ → ℕ
counted f b n = sum_below (λ x. num (f (b + x))) n

-- N ticks of a budget of size C, refilled each P ticks. Before tick t it is `budget t`, and its refill is `due t` away; `ran t` charges it.
pub record Account (P C N : ℕ) (budget due : ℕ → ℕ) (ran : ℕ → Bool) : Type 0 where
  pub period : 0 < P
  pub start : (0 < due 0) × (budget 0 ≤ C)
  pub charge : (t : ℕ) → t < N → num (ran t) ≤ budget t
  pub nearer : (t : ℕ) → t < N → 1 < due t → (due (suc t) ≡ due t - 1) × (budget (suc t) + num (ran t) ≤ budget t)
  pub refill : (t : ℕ) → t < N → due t ≡ 1 → (due (suc t) ≡ P) × (budget (suc t) ≤ C)

module _ {P C N : ℕ} {budget due : ℕ → ℕ} {ran : ℕ → Bool} (A : Account P C N budget due ran) where
  pub sound : (t : ℕ) → t ≤ N → (0 < due t) × (budget t ≤ C)
  sound zero h = A.start
  sound (suc t) h = go (sound t (omega arith)) (dec_le (due t) 1)
    where
      go : (0 < due t) × (budget t ≤ C) → Dec (due t ≤ 1) → (0 < due (suc t)) × (budget (suc t) ≤ C)
      go ih (yes e) = omega (arith, A.period, A.refill t (omega arith) (omega arith))
      go ih (no e) = omega (arith, A.nearer t (omega arith) (omega arith))

  -- up to the next refill: it comes nearer, and no more is charged than there was
  inside : (b n : ℕ) → n < due b → b + n ≤ N → (due (b + n) + n ≡ due b) × (budget (b + n) + counted ran b n ≤ budget b)
  unfolding sum_below
  inside b zero h g = rw (add-zero b) (omega arith)
  inside b (suc n) h g =
      let ih = inside b n (omega arith) (omega arith) in
      let st = A.nearer (b + n) (omega arith) (omega arith) in
      rw (add-suc b n) (omega arith)

  pub most : (b n : ℕ) → n ≤ due b → b + n ≤ N → counted ran b n ≤ budget b
  unfolding sum_below
  most b zero h g = omega arith
  most b (suc n) h g = omega (arith, inside b n (omega arith) (omega arith), A.charge (b + n) (omega arith))

  -- the tick before the next refill
  pub last : (b : ℕ) → b + due b ≤ N → (t : ℕ) × (b + due b ≡ suc t) × (due t ≡ 1)
  last b g =
      let p = (sound b (omega arith)).0 in
      let ih = inside b (due b - 1) (omega arith) (omega arith) in
      (b + (due b - 1), omega arith, omega arith)

  next : (b : ℕ) → b + due b ≤ N → due (b + due b) ≡ P
  next b g = let (t, e, d) = last b g in rw e (A.refill t (omega arith) d).0

  -- m periods in a row, the last one perhaps cut short
  spans : (m b : ℕ) → due b ≡ P → (n : ℕ) → n ≤ m * P → b + n ≤ N → counted ran b n ≤ m * C
  unfolding sum_below
  spans zero b f zero h g = omega arith
  spans zero b f (suc n) h g = omega arith
  spans (suc m) b f n h g = go (dec_le n P) (λ c. spans m (b + P) (rw f at (next b (omega arith))) (n - P) (omega arith) (omega arith))
    where
      go : Dec (n ≤ P) → (P < n → counted ran (b + P) (n - P) ≤ m * C) → counted ran b n ≤ suc m * C
      go (yes c) ih = omega (arith, most b n (omega arith) g, sound b (omega arith))
      go (no c) ih =
          let e : n ≡ P + (n - P) = omega arith in
          rw e (omega (arith, ih (omega arith), most b P (omega arith) (omega arith), sound b (omega arith), sum_cut (λ t. num (ran t)) b P (n - P)))

  -- a window of at most 1 + m P ticks meets at most 1 + m budgets: what is left of one, and m full ones
  pub window : (m b n : ℕ) → n ≤ 1 + m * P → b + n ≤ N → counted ran b n ≤ C * (1 + m)
  window m b n h g = go (dec_le n (due b))
    where
      go : Dec (n ≤ due b) → counted ran b n ≤ C * (1 + m)
      go (yes c) = omega (arith, most b n c g, sound b (omega arith))
      go (no c) =
          let p = sound b (omega arith) in
          let e : n ≡ due b + (n - due b) = omega arith in
          rw e (omega (
            arith,
            most b (due b) (omega arith) (omega arith),
            sum_cut (λ t. num (ran t)) b (due b) (n - due b),
            spans m (b + due b) (next b (omega arith)) (n - due b) (omega arith) (omega arith),
          ))

  -- Up to the next refill, where nothing of the budget is lost before the last tick, and each tick with budget is run or missed:
  -- every tick is run or missed, or the whole budget is run.
  module _ (missed : ℕ → Bool) (b : ℕ) where
    exactly : (n : ℕ) → n < due b → b + n ≤ N
        → ((x : ℕ) → x < n → 1 < due (b + x) → budget (suc (b + x)) + num (ran (b + x)) ≡ budget (b + x))
        → budget (b + n) + counted ran b n ≡ budget b
    unfolding sum_below
    exactly zero h g k = rw (add-zero b) (omega arith)
    exactly (suc n) h g k =
        let ih = exactly n (omega arith) (omega arith) (λ x l. k x (omega arith)) in
        let d = inside b n (omega arith) (omega arith) in
        let st = k n (omega arith) (omega arith) in
        rw (add-suc b n) (omega arith)

    pub busy : (n : ℕ) → n ≤ due b → b + n ≤ N
        → ((x : ℕ) → suc x < n → 1 < due (b + x) → budget (suc (b + x)) + num (ran (b + x)) ≡ budget (b + x))
        → ((x : ℕ) → x < n → 0 < budget (b + x) → 1 ≤ num (ran (b + x)) + num (missed (b + x)))
        → (n ≤ counted ran b n + counted missed b n) ⊎ (budget b ≤ counted ran b n)
    unfolding sum_below
    busy zero h g k w = inl (omega arith)
    busy (suc n) h g k w =
        go (busy n (omega arith) (omega arith) (λ x l. k x (omega arith)) (λ x l. w x (omega arith))) (dec_le (budget (b + n)) 0)
      where
        go : (n ≤ counted ran b n + counted missed b n) ⊎ (budget b ≤ counted ran b n) → Dec (budget (b + n) ≤ 0)
            → (suc n ≤ counted ran b (suc n) + counted missed b (suc n)) ⊎ (budget b ≤ counted ran b (suc n))
        go (inr c) _ = inr (omega arith)
        go (inl c) (yes z) = inr (omega (arith, exactly n (omega arith) (omega arith) (λ x l. k x (omega arith))))
        go (inl c) (no z) = inl (omega (arith, w n (omega arith) (omega arith)))

-- what m accounts are charged in a window of at most L ticks
module _ (m N : ℕ) (P C : ℕ → ℕ) (budget due : ℕ → ℕ → ℕ) (ran : ℕ → ℕ → Bool)
    (A : (j : ℕ) → j < m → Account (P j) (C j) N (budget j) (due j) (ran j)) where
  pub charges : (L b n : ℕ) → n ≤ L → b + n ≤ N → sum_below (λ x. sum_below (λ j. num (ran j (b + x))) m) n ≤ sum_below (λ j. C j * (1 + ceil (L - 1) (P j))) m
  charges L b n h g =
      let h₁ = sum_mono (λ j. counted (ran j) b n) (λ j. C j * (1 + ceil (L - 1) (P j))) m
      (λ j c. window (A j c) (ceil (L - 1) (P j)) b n (omega (arith, ceil_covers (L - 1) (P j) (A j c).period)) g) in
      omega (arith, sum_swap (λ j x. num (ran j (b + x))) n m)

  -- ticks of f, on each of which one of them is charged
  pub charged_to : (f : ℕ → Bool) → ((t : ℕ) → t < N → num (f t) ≤ sum_below (λ j. num (ran j t)) m)
      → (L b n : ℕ) → n ≤ L → b + n ≤ N → counted f b n ≤ sum_below (λ j. C j * (1 + ceil (L - 1) (P j))) m
  charged_to f k L b n h g = omega (
    arith,
    charges L b n h g,
    sum_mono (λ x. num (f (b + x))) (λ x. sum_below (λ j. num (ran j (b + x))) m) n (λ x c. k (b + x) (omega arith)),
  )
