-- ONE OUTCOME: any two outcomes that a public function's contract allows are equal, at every type of field. Stated over the contracts themselves: `f.Post
-- .. κs a r e` is what the contract of `f` says of the arguments a, the result r and the parameters e as they are at exit. Assumes nothing.
use Rattle.std.specs.Prelude.{ℕ, Result}
use Rattle.small.proofs.Outcome.{One, same}
use Rattle.refusal.specs.declared.Reason.{Reason}
use Rattle.field.proofs.Answers.{written_one}
use Rattle.field.specs.contracts.Field.TheBound.{one-law}
use Rattle.field.proofs.read.Reads as read
use Rattle.field.proofs.put.Reads as put
use Rattle.field.proofs.whole.Reads as whole
use Rattle.field.proofs.refused.Reads as refused

-- a type of fields, T, with what its impl of Field says: the number that a value is, is that of no other value (`one`)
module _ (T : _) (laws : _) (copy : _) (F : _) (dict : _) (G : _) (dict' : _) where
  pub read_one : one-law T F dict G dict' → One (read.Post T laws copy F dict G dict') (λ κs x e. x)
  read_one one κs a x y e f p q = one x y (same p q)

  pub put_one : One (put.Post T laws copy F dict G dict') (λ κs x e. e.0.now)
  put_one κs a x y e f p q = same p q

-- what a writer answers

pub whole_one : One {B = Result ℕ Reason} whole.Post (λ κs x e. x)
whole_one κs a x y e f p q = written_one x y (same p q)

pub refused_one : One {B = Result ℕ Reason} refused.Post (λ κs x e. x)
refused_one κs a x y e f p q = written_one x y (same p q)
