-- ONE OUTCOME: any two outcomes that a public call's contract allows are equal: what it answers, and the state that it leaves. Stated over the contracts
-- themselves: `f.Post κs a r e` is what the contract of `f` says of the arguments a, the result r and the parameters e as they are at exit. Assumes nothing.
use mathlib.Core.Path.{◌≡◌, refl, sym, ap, ◌∙◌}
use Rattle.std.specs.Prelude.{Result, Ok, Err}
use Rattle.refusal.specs.Reason.{refusal_in}
use Rattle.refusal.specs.declared.Reason.{Reason}
use Rattle.refusal.specs.declared.Refusal.{Refusal}
use Rattle.refusal.proofs.Reasons.{number_one, refusal_in_one}
use Rattle.state.specs.declared.State.{State}
use Rattle.scheduler.specs.Arrive.{Arrived, arrival_in}
use Rattle.scheduler.specs.Tick.{Ticked, answer_in}
use Rattle.scheduler.specs.Run.{Batched, batch_in}
use Rattle.scheduler.specs.declared.Answer.{Answer}
use Rattle.scheduler.specs.declared.Arrival.{Arrival}
use Rattle.scheduler.specs.declared.Batch.{Batch}
use Rattle.small.proofs.Outcome.{One, same}
use Rattle.scheduler.proofs.tick.Reads as tick
use Rattle.scheduler.proofs.run.Reads as run
use Rattle.scheduler.proofs.arrive.Reads as arrive

-- an outcome is told by its refusal and by what it holds, or what stands for that where it is refused
told : {A : Type 0} (held : Result A Reason → A) → ((x : A) → held (Ok x) ≡ x) → (o p : Result A Reason) → refusal_in o ≡ refusal_in p → held o ≡ held p → o ≡ p
told held given (Ok x) (Ok y) e h = ap Ok (sym (given x) ∙ h ∙ given y)
told held given (Ok x) (Err r) e h = absurd (let k = refusal_in_one (Ok tt) (Err r) e in cc)
told held given (Err r) (Ok x) e h = absurd (let k = refusal_in_one (Err r) (Ok tt) e in cc)
told held given (Err r) (Err q) e h = ap Err (number_one r q (ap (λ (x : Refusal). x.number) e))

pub tick_one : One {B = Result Answer Reason × State} tick.Post (λ κs x e. (x, e.0.now))
tick_one κs a x y e f p q =
    let t = same p q in
    let o = told answer_in (λ x. refl) x y (ap (λ (t : Ticked). t.refusal) t) (λ i. record { choice = (t i).choice; handled = (t i).handled }) in
    λ i. (o i, (t i).state)

pub run_one : One {B = Result Batch Reason × State} run.Post (λ κs x e. (x, e.0.now))
run_one κs a x y e f p q =
    let t = same p q in
    let o = told batch_in (λ x. refl) x y (ap (λ (t : Batched). t.refusal) t) (λ i. record { answers = (t i).answers; count = (t i).count }) in
    λ i. (o i, (t i).state)

pub arrive_one : One {B = Result Arrival Reason × State} arrive.Post (λ κs x e. (x, e.0.now))
arrive_one κs a x y e f p q =
    let t = same p q in
    let o = told arrival_in (λ x. refl) x y (ap (λ (t : Arrived). t.refusal) t) (ap (λ (t : Arrived). t.arrival) t) in
    λ i. (o i, (t i).state)
