use mathlib.Core.Path.{◌≡◌, sym}
use Prim.Native.Nat.{ℕ, ◌+◌, ◌*◌, ◌^◌}
use native.Mathlib.Nat.{pow-suc, pow-le-pow_right}
use native.Mathlib.Numerals.{add-one}
use native.Mathlib.Omega.{arith}
use Rattle.lines.proofs.DecimalLaws.{decimal_places, word_below}
use Rattle.lines.proofs.places.Goals as goal

-- the power behind a power of ten
next_power : (k : ℕ) → 10 ^ (k + 1) ≡ 10 ^ k * 10
next_power k = rw add-one (pow-suc 10 k)

pub returns-then-n-least : goal.returns-then-n-least
returns-then-n-least c =
    let l = c.loop-k in
    sym (decimal_places l.k c.args.n (omega arith) (omega arith) l.invariant.1 (omega (arith, l.invariant.0)))

pub overflow_mul-least : goal.overflow_mul-least
overflow_mul-least c =
    let l = c.loop-k in
    omega (arith, l.invariant.0, next_power l.k, pow-le-pow_right {n = 10} (omega arith) {i = l.k + 1} {j = 19} (omega arith))

pub returns-then-n-least-2 : goal.returns-then-n-least-2
returns-then-n-least-2 c =
    let l = c.loop-k in
    let e : l.k ≡ 19 = omega arith in
    sym (decimal_places 19 c.args.n (omega arith) (omega arith) (rw e at l.invariant.1) (omega (arith, rw e at l.invariant.0)))

pub returns-else-n-least-2 : goal.returns-else-n-least-2
returns-else-n-least-2 c =
    let l = c.loop-k in
    let e : l.k ≡ 19 = omega arith in
    sym (decimal_places 20 c.args.n (omega arith) (omega arith) (λ b. omega (arith, rw e at l.invariant.0)) (word_below c.args.n (omega arith)))
