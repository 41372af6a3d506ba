-- ONE OUTCOME: any two outcomes that a public function's contract allows are equal, its answer and the buffer that the lender has afterwards.
-- Stated over the contracts themselves: `f.Post κs a r e` is what the contract of `f` says of the arguments a, the result r and the parameters e as they are
-- at exit. Assumes nothing.
use mathlib.Core.List.{List}
use Prim.Native.Nat.{ℕ}
use Rattle.std.specs.Prelude.{Result}
use Rattle.small.proofs.Outcome.{One, same}
use Rattle.refusal.specs.declared.Reason.{Reason}
use Rattle.field.proofs.Answers.{written_one}
use Rattle.lines.proofs.header.Reads as header
use Rattle.lines.proofs.message_line.Reads as message-line
use Rattle.lines.proofs.ticks.Reads as ticks
use Rattle.lines.proofs.end.Reads as end

pub header_one : One {B = Result ℕ Reason × List ℕ} header.Post (λ κs x e. (x, e.0.now))
header_one κs a x y e f p q = λ i. (written_one x y (same p.0 q.0) i, same p.1 q.1 i)

pub message_line_one : One {B = Result ℕ Reason × List ℕ} message-line.Post (λ κs x e. (x, e.0.now))
message_line_one κs a x y e f p q = λ i. (written_one x y (same p.0 q.0) i, same p.1 q.1 i)

pub ticks_one : One {B = Result ℕ Reason × List ℕ} ticks.Post (λ κs x e. (x, e.0.now))
ticks_one κs a x y e f p q = λ i. (written_one x y (same p.0 q.0) i, same p.1 q.1 i)

pub end_one : One {B = Result ℕ Reason × List ℕ} end.Post (λ κs x e. (x, e.0.now))
end_one κs a x y e f p q = λ i. (written_one x y (same p.0 q.0) i, same p.1 q.1 i)
