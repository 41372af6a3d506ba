-- ONE OUTCOME: any two outcomes that a public call's contract allows are equal. Stated over the contracts themselves: `f.Post κs a r e` is what the
-- contract of `f` says of the arguments a, the result r and the parameters e as they are at exit. Assumes nothing.
use mathlib.Core.Path.{◌≡◌, sym, ap}
use Rattle.std.specs.Prelude.{ℕ, Result, Ok, Err, ⊤}
use Rattle.small.proofs.Outcome.{One, same}
use Rattle.refusal.proofs.Reasons.{number_one, refusal_in_one}
use Rattle.refusal.specs.Refusal.{none}
use Rattle.refusal.specs.Reason.{refusal_by}
use Rattle.refusal.specs.declared.Reason.{Reason}
use Rattle.queue.specs.Calls.{Changed, Taken, Left, changed_by, taken_by, left_by}
use Rattle.queue.specs.declared.Distance.{Distance}
use Rattle.queue.specs.declared.Queue.{Queue}
use Rattle.queue.proofs.Queue.empty.Reads as empty
use Rattle.queue.proofs.Queue.is_sound.Reads as is-sound
use Rattle.queue.proofs.Queue.holds.Reads as holds
use Rattle.queue.proofs.Queue.insert.Reads as insert
use Rattle.queue.proofs.Queue.remove.Reads as remove
use Rattle.queue.proofs.Queue.time_left.Reads as time-left
use Rattle.queue.proofs.Queue.clock.Reads as clock
use Rattle.queue.proofs.Queue.take.Reads as take
use Rattle.queue.proofs.Queue.push_back.Reads as push-back
use Rattle.queue.proofs.Queue.is_empty.Reads as is-empty
use Rattle.queue.proofs.Queue.falls.Reads as falls
use Rattle.queue.proofs.Queue.is_due.Reads as due
use Rattle.queue.proofs.Queue.first_id.Reads as first-id
use Rattle.queue.proofs.Queue.nearer.Reads as nearer
use Rattle.queue.proofs.Queue.without_first.Reads as without-first
use Rattle.queue.proofs.Queue.tick.Reads as tick
use Rattle.queue.proofs.Queue.place.Reads as place
use Rattle.queue.proofs.Queue.again.Reads as again

-- AN ANSWER TELLS ITS OUTCOME and the queue behind it

not_none : (r : Reason) → none ≡ refusal_by r → ⊥
not_none r e = cc (refusal_in_one (Ok tt) (Err r) e)

changed_one : (a b : Result ⊤ Reason) (p q : Queue) → changed_by a p ≡ changed_by b q → ◌≡◌ {A = Result ⊤ Reason × Queue} (a, p) (b, q)
changed_one a b p q e = λ i. (refusal_in_one a b (ap (λ (x : Changed). x.refusal) e) i, (e i).queue)

taken_one : (a b : Result ℕ Reason) (p q : Queue) → taken_by a p ≡ taken_by b q → ◌≡◌ {A = Result ℕ Reason × Queue} (a, p) (b, q)
taken_one (Ok x) (Ok y) p q e = λ i. (Ok (e i).id, (e i).queue)
taken_one (Ok x) (Err s) p q e = absurd (not_none s (ap (λ (x : Taken). x.refusal) e))
taken_one (Err r) (Ok y) p q e = absurd (not_none r (ap (λ (x : Taken). x.refusal) (sym e)))
taken_one (Err r) (Err s) p q e = λ i. (Err (number_one r s (ap (λ (x : Taken). x.refusal.number) e) i), (e i).queue)

left_one : (a b : Result Distance Reason) → left_by a ≡ left_by b → a ≡ b
left_one (Ok x) (Ok y) e = λ i. Ok (e i).distance
left_one (Ok x) (Err s) e = absurd (not_none s (ap (λ (x : Left). x.refusal) e))
left_one (Err r) (Ok y) e = absurd (not_none r (ap (λ (x : Left). x.refusal) (sym e)))
left_one (Err r) (Err s) e = ap Err (number_one r s (ap (λ (x : Left). x.refusal.number) e))

pub empty_one : One empty.Post (λ κs x e. x)
empty_one κs a x y e f p q = same p q

-- the calls: the outcome, and the queue that is left

pub sound_one : One is-sound.Post (λ κs x e. x)
sound_one κs a x y e f p q = same p q

pub holds_one : One holds.Post (λ κs x e. x)
holds_one κs a x y e f p q = same p q

pub insert_one : One {B = Result ⊤ Reason × Queue} insert.Post (λ κs x e. (x, e.0.now))
insert_one κs a x y e f p q = changed_one x y e.0.now f.0.now (same p q)

pub remove_one : One {B = Result ⊤ Reason × Queue} remove.Post (λ κs x e. (x, e.0.now))
remove_one κs a x y e f p q = changed_one x y e.0.now f.0.now (same p q)

pub time_left_one : One time-left.Post (λ κs x e. x)
time_left_one κs a x y e f p q = left_one x y (same p q)

pub clock_one : One {B = Result ⊤ Reason × Queue} clock.Post (λ κs x e. (x, e.0.now))
clock_one κs a x y e f p q = changed_one x y e.0.now f.0.now (same p q)

pub take_one : One {B = Result ℕ Reason × Queue} take.Post (λ κs x e. (x, e.0.now))
take_one κs a x y e f p q = taken_one x y e.0.now f.0.now (same p q)

pub push_back_one : One {B = Result ⊤ Reason × Queue} push-back.Post (λ κs x e. (x, e.0.now))
push_back_one κs a x y e f p q = changed_one x y e.0.now f.0.now (same p q)

-- the total steps

pub is_empty_one : One is-empty.Post (λ κs x e. x)
is_empty_one κs a x y e f p q = same p q

pub falls_one : One falls.Post (λ κs x e. x)
falls_one κs a x y e f p q = same p q

pub due_one : One due.Post (λ κs x e. x)
due_one κs a x y e f p q = same p q

pub first_id_one : One first-id.Post (λ κs x e. x)
first_id_one κs a x y e f p q = same p q

pub nearer_one : One nearer.Post (λ κs x e. e.0.now)
nearer_one κs a x y e f p q = same p q

pub rest_one : One without-first.Post (λ κs x e. e.0.now)
rest_one κs a x y e f p q = same p q

pub tick_one : One tick.Post (λ κs x e. e.0.now)
tick_one κs a x y e f p q = same p q

pub place_one : One {B = Result ⊤ Reason × Queue} place.Post (λ κs x e. (x, e.0.now))
place_one κs a x y e f p q = changed_one x y e.0.now f.0.now (same p q)

pub again_one : One again.Post (λ κs x e. e.0.now)
again_one κs a x y e f p q = same p q
