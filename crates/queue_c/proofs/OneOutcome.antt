-- ONE OUTCOME: any two outcomes that a call's contract allows on a queue that is lent are equal: the answer, and the queue that the lender has afterwards. Stated
-- over the contracts themselves. Assumes nothing.
use mathlib.Core.Path.{◌≡◌}
use seplogic.Ra.Ura.{Ura}
use base.Logic.{SProp, ent, emp, via}
use prog.Memory.{Memory}
use prog.Routine.{Routine}
use types.Logic.{Logic}
use contract.Lifetimes.{Lfts}
use contract.Monad.{Fun, conj, conj_r, fact, fact_mono, guard-conj}
use denote.Triple.Entry.{Args, Res}
use denote.Triple.Clauses.{Ended, AtExit, Clauses}
use Rattle.small.proofs.Outcome.{same}
use Rattle.refusal.specs.declared.Refusal.{Refusal}
use Rattle.queue.specs.declared.Queue.{Queue}
use Rattle.queue_c.specs.declared.Took.{Took}
use Rattle.queue_c.specs.contracts.clock_in as clock-in
use Rattle.queue_c.specs.contracts.take_in as take_in

-- said of the contract's own clauses, in any model of the logic: where
-- the contract's `ensures` holds of two outcomes, of the answers x and y and of the parameters e and f at exit, the same is seen of both
abbrev OneHeld : {M : Type 1} (𝓤 : Ura M) (T : Ended) {B : Type 0} → Clauses 𝓤 T
    → ((κs : Lfts T.signature.lifetimes) → Res T.signature κs → AtExit T κs → B) → Type 1
OneHeld 𝓤 T {B = B} c seen = (κs : Lfts T.signature.lifetimes) (a : Args T.signature κs) (g : (c κs a).ghost)
    (x y : Res T.signature κs) (e f : AtExit T κs)
    → ent 𝓤 (conj 𝓤 ((c κs a).ensures g x e) ((c κs a).ensures g y f)) (fact 𝓤 (◌≡◌ {A = B} (seen κs x e) (seen κs y f)))

agree : {M : Type 1} (𝓤 : Ura M) (φ ψ χ : Type 0) → (φ → ψ → χ) → ent 𝓤 (conj 𝓤 (fact 𝓤 φ) (fact 𝓤 ψ)) (fact 𝓤 χ)
agree 𝓤 φ ψ χ both = guard-conj 𝓤 φ (emp 𝓤) (fact 𝓤 ψ) (λ p. via 𝓤 (fact 𝓤 ψ) (conj_r 𝓤 (emp 𝓤) (fact 𝓤 ψ)) (fact_mono 𝓤 ψ χ (both p)))

pub clock_in_one : {M : Type 1} {𝓤 : Ura M} (𝓛 : Logic 𝓤) (at_mem : Memory → SProp 𝓤) (run : Routine → Fun 𝓤)
    → OneHeld 𝓤 clock-in.ended {B = Refusal × Queue} (clock-in.clauses 𝓛 at_mem run) (λ κs x e. (x, e.0.now))
clock_in_one {𝓤 = 𝓤} 𝓛 at_mem run κs a g x y e f = agree 𝓤 _ _ _ (λ p q i. (same p.0 q.0 i, same p.1 q.1 i))

pub take_in_one : {M : Type 1} {𝓤 : Ura M} (𝓛 : Logic 𝓤) (at_mem : Memory → SProp 𝓤) (run : Routine → Fun 𝓤)
    → OneHeld 𝓤 take_in.ended {B = Took × Queue} (take_in.clauses 𝓛 at_mem run) (λ κs x e. (x, e.0.now))
take_in_one {𝓤 = 𝓤} 𝓛 at_mem run κs a g x y e f = agree 𝓤 _ _ _ (λ p q i. (same p.0 q.0 i, same p.1 q.1 i))
