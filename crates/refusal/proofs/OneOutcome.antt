-- ONE OUTCOME: any two outcomes that a public function's contract allows are equal. Stated over the contracts themselves: `f.Post κs a r e` is what the
-- contract of `f` says of the arguments a, the result r and the parameters e as they are at exit. Assumes nothing.
use Rattle.small.proofs.Outcome.{One, same}
use Rattle.refusal.proofs.Reason.number.Reads as number
use Rattle.refusal.proofs.Reason.at.Reads as at-place
use Rattle.refusal.proofs.RefusalFromReason.from.Reads as from-reason
use Rattle.refusal.proofs.RefusalFromFault.from.Reads as from-fault

pub number_of_one : One number.Post (λ κs x e. x)
number_of_one κs a x y e f p q = same p q

pub at_one : One at-place.Post (λ κs x e. x)
at_one κs a x y e f p q = same p q

pub from_reason_one : One from-reason.Post (λ κs x e. x)
from_reason_one κs a x y e f p q = same p q

pub from_fault_one : One from-fault.Post (λ κs x e. x)
from_fault_one κs a x y e f p q = same p q
