-- What lent memory holds behind a call, and is read as: where the call is accepted what it gives, and where it is refused what the memory held; and that the
-- queue of an accepted call can be stored. Assumes nothing.
use mathlib.Core.Path.{◌≡◌, refl}
use mathlib.Core.Bool.{Bool, true, false}
use mathlib.Core.List.{List, [], ◌∷◌}
use mathlib.Core.Logic.{◌≢◌}
use Prim.Native.Nat.{ℕ, ◌<◌}
use native.Mathlib.Omega.{arith}
use lib.Dec.{eqb}
use lib.ListN.{length}
use borrow.Author.Tests.{eqb-true, eqb-false}
use Rattle.small.specs.Small.{pick}
use Rattle.small.proofs.Each.{sizes_of, each_length}
use Rattle.std.specs.Prelude.{Result, Ok, Err, IfOk, ⊤}
use Rattle.refusal.specs.declared.Reason.{Reason}
use Rattle.refusal.specs.Reason.{number_of}
use Rattle.refusal.proofs.Reasons.{refusal_in_one}
use Rattle.refusal.specs.declared.Refusal.{Refusal}
use Rattle.queue.specs.Limits.{cell_count, max_gap, longest}
use Rattle.queue.specs.Sound.{soundb}
use Rattle.queue.specs.Calls.{Changed, Taken, changed_by, taken_by, insert_of, remove_of, clock_of, take_of, push_back_of}
use Rattle.queue.specs.declared.Cell.{Cell}
use Rattle.queue.specs.declared.Queue.{Queue}
use Rattle.queue.proofs.SoundLaws.{sound_is}
use Rattle.queue.proofs.Refusals.{insert_accepted, remove_accepted, clock_accepted, take_accepted, push_back_accepted}
use Rattle.queue.proofs.Keeps.{insert_sound, remove_sound, clock_sound, take_sound, push_back_sound}
use Rattle.port.specs.Layout.{word_limit, queue_size}
use Rattle.port.specs.Words.{cell_word, queue_words, QueueFits}
use Rattle.port.specs.Exports.{held_after}

-- READ AGAIN: behind a call that hands x back, the memory is read as x where what it stores is, and, where it is refused, what the memory held
pub held_again : {A : Type 0} (read : List ℕ → A) (r : Refusal) (new old : List ℕ) (x : A) → (r.number ≡ 0 → read new ≡ x) → (r.number ≢ 0 → read old ≡ x)
    → read (held_after r new old) ≡ x
held_again read r new old x accepted refused = go (eqb r.number 0) refl
  where
    go : (b : Bool) → eqb r.number 0 ≡ b → read (pick b new old) ≡ x
    go true e = accepted (eqb-true r.number 0 e)
    go false e = refused (eqb-false r.number 0 e)

-- a reason's number is above 0
pub some_reason : (r : Reason) → number_of r ≢ 0
some_reason r h = let e : ◌≡◌ {A = Result ⊤ Reason} (Err r) (Ok tt) = refusal_in_one (Err r) (Ok tt) λ i. record { number = h i; place = 0 } in cc

-- QUEUES

-- all the words of a queue with all its cells
pub queue_length : (q : Queue) → length q.cells ≡ cell_count → length (queue_words q) ≡ queue_size
unfolding queue_words
queue_length q h =
    let one : Cell → List ℕ = λ c. cell_word c ∷ [] in
    omega (arith, each_length one 1 q.cells (sizes_of one 1 (λ c. refl) q.cells))

-- a sound queue's count fits into a word
pub sound_few : (q : Queue) → soundb max_gap longest q ≡ true → q.len < word_limit
sound_few q s = omega (arith, (sound_is max_gap longest q s).short)

-- A CALL WHOSE QUEUE IS STORED: where an accepted one gives a sound queue, that one's count fits into a word

pub changed_fits : (c : Changed) → (c.refusal.number ≡ 0 → soundb max_gap longest c.queue ≡ true) → (r : Result ⊤ Reason) (q : Queue) → changed_by r q ≡ c
    → IfOk r (λ _. QueueFits q)
changed_fits c sound (Ok x) q e = sound_few q (rw (← e) at sound refl)
changed_fits c sound (Err r) q e = tt

pub taken_fits : (c : Taken) → (c.refusal.number ≡ 0 → soundb max_gap longest c.queue ≡ true) → (r : Result ℕ Reason) (q : Queue) → taken_by r q ≡ c
    → IfOk r (λ _. QueueFits q)
taken_fits c sound (Ok x) q e = sound_few q (rw (← e) at sound refl)
taken_fits c sound (Err r) q e = tt

-- an accepted call's queue is sound: the call before it was on a sound queue
module _ (q : Queue) where
  pub insert_gives : (id delay : ℕ) → let c = insert_of max_gap longest q id delay in c.refusal.number ≡ 0 → soundb max_gap longest c.queue ≡ true
  insert_gives id delay h = insert_sound max_gap longest q id delay ((insert_accepted max_gap longest q id delay).0 h).0

  pub remove_gives : (id : ℕ) → let c = remove_of max_gap longest q id in c.refusal.number ≡ 0 → soundb max_gap longest c.queue ≡ true
  remove_gives id h = remove_sound max_gap longest q id (omega arith) ((remove_accepted max_gap longest q id).0 h).0

  pub clock_gives : let c = clock_of max_gap longest q in c.refusal.number ≡ 0 → soundb max_gap longest c.queue ≡ true
  clock_gives h = clock_sound max_gap longest q (omega arith) ((clock_accepted max_gap longest q).0 h).0

  pub take_gives : let c = take_of max_gap longest q in c.refusal.number ≡ 0 → soundb max_gap longest c.queue ≡ true
  take_gives h = take_sound max_gap longest q ((take_accepted max_gap longest q).0 h).0

  pub push_back_gives : let c = push_back_of max_gap longest q in c.refusal.number ≡ 0 → soundb max_gap longest c.queue ≡ true
  push_back_gives h = push_back_sound max_gap longest q ((push_back_accepted max_gap longest q).0 h).0

-- so its count fits into a word
module _ (q : Queue) (r : Result ⊤ Reason) (x : Queue) where
  pub insert_fits : (id delay : ℕ) → changed_by r x ≡ insert_of max_gap longest q id delay → IfOk r (λ _. QueueFits x)
  insert_fits id delay = changed_fits (insert_of max_gap longest q id delay) (insert_gives q id delay) r x

  pub remove_fits : (id : ℕ) → changed_by r x ≡ remove_of max_gap longest q id → IfOk r (λ _. QueueFits x)
  remove_fits id = changed_fits (remove_of max_gap longest q id) (remove_gives q id) r x

  pub clock_fits : changed_by r x ≡ clock_of max_gap longest q → IfOk r (λ _. QueueFits x)
  clock_fits = changed_fits (clock_of max_gap longest q) (clock_gives q) r x

  pub push_back_fits : changed_by r x ≡ push_back_of max_gap longest q → IfOk r (λ _. QueueFits x)
  push_back_fits = changed_fits (push_back_of max_gap longest q) (push_back_gives q) r x

pub take_fits : (q : Queue) (r : Result ℕ Reason) (x : Queue) → taken_by r x ≡ take_of max_gap longest q → IfOk r (λ _. QueueFits x)
take_fits q r x = taken_fits (take_of max_gap longest q) (take_gives q) r x
