-- ONE OUTCOME: any two outcomes that the function's contract allows are equal. Assumes nothing.
use Prim.Native.Nat.{ℕ}
use Rattle.small.proofs.Outcome.{One, same}
use Rattle.small.proofs.least.Reads as least

pub least_one : One {B = ℕ} least.Post (λ κs x e. x)
least_one κs a x y e f p q = same p q
