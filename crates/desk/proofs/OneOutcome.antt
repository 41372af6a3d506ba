-- ONE OUTCOME: any two outcomes that a public call's contract allows are equal, and so is the run that it leaves. Stated over the contracts themselves:
-- `f.Post κs a r e` is what the contract of `f` says of the arguments a, the result r and the parameters e as they are at exit. Assumes nothing.
use Rattle.std.specs.Prelude.{Result}
use Rattle.small.proofs.Outcome.{One, same}
use Rattle.refusal.specs.declared.Reason.{Reason}
use Rattle.lines.specs.declared.Line.{Line}
use Rattle.desk.specs.declared.Desk.{Desk}
use Rattle.desk.specs.declared.Ran.{Ran}
use Rattle.desk.proofs.Views.{opened_one, met_one, ran_one}
use Rattle.desk.proofs.Desk.open.Reads as opens
use Rattle.desk.proofs.Desk.message.Reads as message
use Rattle.desk.proofs.Desk.run_on.Reads as run_on

pub open_one : One opens.Post (λ κs x e. x)
open_one κs a x y e f p q = opened_one x y (same p q)

pub message_one : One {B = Result Line Line × Desk} message.Post (λ κs x e. (x, e.0.now))
message_one κs a x y e f p q = met_one x y _ _ (same p q)

pub run_on_one : One {B = Result Ran Reason × Desk} run_on.Post (λ κs x e. (x, e.0.now))
run_on_one κs a x y e f p q = ran_one x y _ _ (same p q)
