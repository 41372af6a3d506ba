-- `lines::places` meets its contract. The loop's invariant: n has more than k - 1 digits, and `least` is the least number of more than k.
-- Assumes nothing.
use mathlib.Core.Path.{◌≡◌}
use Prim.Native.Nat.{◌-◌, ◌^◌, ◌≤◌}
use Rattle.lines.proofs.places.Given as goal

abbrev pub invariant-loop-k : goal.invariant-loop-k
invariant-loop-k l =
    (l.least ≡ 10 ^ l.k) × (2 ≤ l.k → 10 ^ (l.k - 1) ≤ l.n)
