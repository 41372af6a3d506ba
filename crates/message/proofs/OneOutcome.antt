-- ONE OUTCOME: any two outcomes that a public call's contract allows are equal, and so is what the lent buffer then holds. Stated over the contracts
-- themselves: `f.Post κs a r e` is what the contract of `f` says of the arguments a, the result r and the parameters e as they are at exit. Assumes nothing.
use mathlib.Core.Path.{◌≡◌}
use Rattle.small.proofs.Outcome.{One, same}
use Rattle.field.specs.Write.{written_by}
use Rattle.field.proofs.Answers.{written_one}
use Rattle.message.specs.Meaning.{write_of, written_to}
use Rattle.message.proofs.Answers.{reading_one}
use Rattle.message.proofs.read.Reads as read
use Rattle.message.proofs.write.Reads as write
use Rattle.message.proofs.KindTryFromU8.try_from.Reads as try-from

-- "For every input, each public call's contract determines the complete outcome"
pub read_one : One read.Post (λ κs x e. x)
read_one κs a x y e f p q = reading_one x y (same p q)

-- the same of the writer: its answer
pub write_one : One write.Post (λ κs x e. x)
write_one κs a x y e f p q = written_one x y (same p.0 q.0)

-- "and the final contents of memory it was lent": its buffer, the fourth parameter
pub write_buffer_one : One write.Post (λ κs x e. e.1.1.1.0.now)
write_buffer_one κs a x y e f p q = same p.1 q.1

-- what a contract says of the arguments, the result and the parameters at exit
abbrev Says : {K : Type 0} {A X E : K → Type 0} → ((κs : K) → A κs → X κs → E κs → Type 0) → ((κs : K) → A κs → X κs → E κs → Type 0) → Type 0
Says {K = K} {A = A} {X = X} {E = E} allows said = (κs : K) (a : A κs) (x : X κs) (e : E κs) → allows κs a x e → said κs a x e

-- the outcome that the contract of the writer allows is the one that the promises speak of
pub write_says : Says write.Post (λ κs a x e. let buf = a.1.1.1.0.now in
    (written_by x ≡ write_of a.0 a.1.0 a.1.1.0 buf) × (e.1.1.1.0.now ≡ written_to a.0 a.1.0 a.1.1.0 buf))
write_says κs a x e p = p

-- what the fourth byte says
pub kind_named_one : One try-from.Post (λ κs x e. x)
kind_named_one κs a x y e f p q = same p q
