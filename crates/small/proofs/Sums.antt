-- Sums over the numbers below n. Assumes nothing.
use mathlib.Core.Path.{◌≡◌, refl, sym}
use Prim.Native.Nat.{ℕ, zero, suc, ◌+◌, ◌≤◌, ◌<◌}
use native.Mathlib.Nat.{add-zero, add-suc, add_assoc}
use native.Mathlib.Decide.{dec_lt}
use native.Mathlib.Omega.{arith}
use Rattle.small.specs.Small.{sum_below}

pub sum_mono : (f g : ℕ → ℕ) (n : ℕ) → ((i : ℕ) → i < n → f i ≤ g i) → sum_below f n ≤ sum_below g n
unfolding sum_below
sum_mono f g zero h = omega arith
sum_mono f g (suc n) h = omega (arith, sum_mono f g n (λ i l. h i (omega arith)), h n (omega arith))

pub sum_same : (f g : ℕ → ℕ) (n : ℕ) → ((i : ℕ) → i < n → f i ≡ g i) → sum_below f n ≡ sum_below g n
unfolding sum_below
sum_same f g zero h = refl
sum_same f g (suc n) h = omega (arith, sum_same f g n (λ i l. h i (omega arith)), h n (omega arith))

pub sum_add : (f g : ℕ → ℕ) (n : ℕ) → sum_below (λ i. f i + g i) n ≡ sum_below f n + sum_below g n
unfolding sum_below
sum_add f g zero = refl
sum_add f g (suc n) = omega (arith, sum_add f g n)

pub sum_zero : (n : ℕ) → sum_below (λ i. 0) n ≡ 0
unfolding sum_below
sum_zero zero = refl
sum_zero (suc n) = omega (arith, sum_zero n)

pub sum_term : (f : ℕ → ℕ) (n i : ℕ) → i < n → f i ≤ sum_below f n
unfolding sum_below
sum_term f zero i h = omega arith
sum_term f (suc n) i h = go (λ l. sum_term f n i l) (dec_lt i n)
  where
    go : (i < n → f i ≤ sum_below f n) → Dec (i < n) → f i ≤ sum_below f n + f n
    go ih (yes l) = omega (arith, ih l)
    go ih (no l) = let e : i ≡ n = omega arith in rw e (omega arith)

-- the order of summing does not matter: over ticks t < m and servers i < n
pub sum_swap : (f : ℕ → ℕ → ℕ) (m n : ℕ) → sum_below (λ t. sum_below (λ i. f i t) n) m ≡ sum_below (λ i. sum_below (f i) m) n
unfolding sum_below
sum_swap f zero n = sym (sum_zero n)
sum_swap f (suc m) n = omega (arith, sum_swap f m n, sum_add (λ i. sum_below (f i) m) (λ i. f i m) n)

-- a window from b on, cut after m: the second part is a window from b + m on
pub sum_cut : (f : ℕ → ℕ) (b m n : ℕ) → sum_below (λ x. f (b + x)) (m + n) ≡ sum_below (λ x. f (b + x)) m + sum_below (λ x. f (b + m + x)) n
unfolding sum_below
sum_cut f b m zero = rw (add-zero m) (omega arith)
sum_cut f b m (suc n) = rw (add-suc m n, add_assoc b m n) (omega (arith, sum_cut f b m n))

pub sum_front : (f : ℕ → ℕ) (n : ℕ) → sum_below f (suc n) ≡ f 0 + sum_below (λ x. f (suc x)) n
unfolding sum_below
sum_front f zero = omega arith
sum_front f (suc n) = omega (arith, sum_front f n)
