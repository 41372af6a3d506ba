-- ONE OUTCOME: any two outcomes that a public function's contract allows are equal. Stated over the contracts themselves: `f.Post κs a r e` is what the
-- contract of `f` says of the arguments a, the result r and the parameters e as they are at exit. Assumes nothing.
use mathlib.Core.List.{List}
use Prim.Native.Nat.{ℕ}
use Rattle.std.specs.Prelude.{Result}
use Rattle.small.proofs.Outcome.{One, same}
use Rattle.refusal.specs.declared.Reason.{Reason}
use Rattle.field.proofs.Answers.{written_one}
use Rattle.setup.proofs.Accepted.{reading_one}
use Rattle.setup.proofs.read.Reads as read
use Rattle.setup.proofs.write.Reads as write

pub read_one : One read.Post (λ κs x e. x)
read_one κs a x y e f p q = reading_one x y (same p q)

-- the answer, and the buffer that the lender has afterwards
pub write_one : One {B = Result ℕ Reason × List ℕ} write.Post (λ κs x e. (x, e.1.0.now))
write_one κs a x y e f p q = λ i. (written_one x y (same p.0 q.0) i, same p.1 q.1 i)
