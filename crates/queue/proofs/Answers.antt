-- Laws of the three kinds of answer of the calls, for any refusal r: what each says of its refusal, what it holds where it is not refused, and what it holds where
-- it is. Assumes nothing.
use mathlib.Core.Path.{◌≡◌, refl, ap}
use mathlib.Core.Logic.{◌≢◌}
use Prim.Native.Nat.{ℕ}
use Rattle.refusal.specs.Refusal.{none}
use Rattle.refusal.specs.declared.Refusal.{Refusal}
use Rattle.refusal.proofs.Decided.{Decided, decided}
use Rattle.queue.specs.Calls.{Left, Taken, Changed, changed, accepted_with, taken, taken_with, left_after, left_with}
use Rattle.queue.specs.declared.Queue.{Queue}

pub changed_decided : (r : Refusal) (q next : Queue) → Decided (λ (c : Changed). c.refusal) r (accepted_with next) (record { refusal = r; queue = q }) (changed r q next)
changed_decided r q next = decided (λ (c : Changed). c.refusal) r _ _ (changed r q next) refl refl refl

pub taken_decided : (r : Refusal) (q : Queue) (id : ℕ) (next : Queue) → Decided (λ (t : Taken). t.refusal) r (taken_with none id next) (taken_with r 0 q) (taken r q id next)
taken_decided r q id next = decided (λ (t : Taken). t.refusal) r _ _ (taken r q id next) refl refl refl

pub left_decided : (r : Refusal) (d : ℕ) → Decided (λ (l : Left). l.refusal) r (left_with none d) (left_with r 0) (left_after r d)
left_decided r d = decided (λ (l : Left). l.refusal) r _ _ (left_after r d) refl refl refl

-- not refused: what the call makes
pub changed_next : (r : Refusal) (q next : Queue) → (changed r q next).refusal.number ≡ 0 → (changed r q next).queue ≡ next
changed_next r q next h = ap (λ (c : Changed). c.queue) ((changed_decided r q next).passed h).1

pub taken_next : (r : Refusal) (q : Queue) (id : ℕ) (next : Queue) → let t = taken r q id next in t.refusal.number ≡ 0 → (t.id ≡ id) × (t.queue ≡ next)
taken_next r q id next h = let e = ((taken_decided r q id next).passed h).1 in (ap (λ (t : Taken). t.id) e, ap (λ (t : Taken). t.queue) e)

pub left_next : (r : Refusal) (d : ℕ) → (left_after r d).refusal.number ≡ 0 → (left_after r d).distance.0 ≡ d
left_next r d h = ap (λ (l : Left). l.distance.0) ((left_decided r d).passed h).1

-- refused: the queue as it was, the id and the distance zero
pub changed_kept : (r : Refusal) (q next : Queue) → (changed r q next).refusal.number ≢ 0 → (changed r q next).queue ≡ q
changed_kept r q next h = ap (λ (c : Changed). c.queue) ((changed_decided r q next).refused h).1

pub taken_kept : (r : Refusal) (q : Queue) (id : ℕ) (next : Queue) → let t = taken r q id next in t.refusal.number ≢ 0 → (t.id ≡ 0) × (t.queue ≡ q)
taken_kept r q id next h = let e = ((taken_decided r q id next).refused h).1 in (ap (λ (t : Taken). t.id) e, ap (λ (t : Taken). t.queue) e)

pub left_kept : (r : Refusal) (d : ℕ) → (left_after r d).refusal.number ≢ 0 → (left_after r d).distance.0 ≡ 0
left_kept r d h = ap (λ (l : Left). l.distance.0) ((left_decided r d).refused h).1
