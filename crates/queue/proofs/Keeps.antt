-- WHAT EVERY CALL KEEPS: a sound queue stays sound under every call, refused or not; and the empty queue is sound. M is the largest gap and D the longest
-- distance. Assumes nothing.
use mathlib.Core.Path.{◌≡◌, refl}
use mathlib.Core.Bool.{Bool, true, false}
use mathlib.Core.List.{[]}
use mathlib.Core.Logic.{◌≢◌}
use Prim.Native.Nat.{ℕ, ◌≤◌}
use native.Mathlib.Omega.{arith}
use lib.Dec.{eqb}
use borrow.Author.Tests.{eqb-true, eqb-false}
use Rattle.queue.specs.Row.{queue_of}
use Rattle.queue.specs.Sound.{soundb}
use Rattle.queue.specs.Calls.{insert_of, remove_of, clock_of, take_of, push_back_of}
use Rattle.queue.specs.declared.Queue.{Queue}
use Rattle.queue.proofs.SoundLaws.{sound_made}
use Rattle.queue.proofs.Unchanged.{insert_unchanged, remove_unchanged, clock_unchanged, take_unchanged, push_back_unchanged}
use Rattle.queue.proofs.Making.{insert_makes, remove_makes, clock_makes, take_makes, push_back_makes}

either : {A : Type 0} (n : ℕ) → (n ≡ 0 → A) → (n ≢ 0 → A) → A
either {A} n zero other = go (eqb n 0) refl
  where
    go : (b : Bool) → eqb n 0 ≡ b → A
    go true e = zero (eqb-true n 0 e)
    go false e = other (eqb-false n 0 e)

pub empty_sound : (M D : ℕ) → soundb M D (queue_of []) ≡ true
empty_sound M D = sound_made M D [] tt tt refl refl (omega arith)

module _ (M D : ℕ) (q : Queue) (id delay : ℕ) where
  pub insert_sound : soundb M D q ≡ true → soundb M D (insert_of M D q id delay).queue ≡ true
  insert_sound s =
      either (insert_of M D q id delay).refusal.number (λ a. (insert_makes M D q id delay a).0) (λ r. rw (insert_unchanged M D q id delay r) s)

module _ (M D : ℕ) (q : Queue) (id : ℕ) (m : 1 ≤ M) where
  pub remove_sound : soundb M D q ≡ true → soundb M D (remove_of M D q id).queue ≡ true
  remove_sound s = either (remove_of M D q id).refusal.number (λ a. (remove_makes M D q id m a).0) (λ r. rw (remove_unchanged M D q id r) s)

module _ (M D : ℕ) (q : Queue) (m : 1 ≤ M) where
  pub clock_sound : soundb M D q ≡ true → soundb M D (clock_of M D q).queue ≡ true
  clock_sound s = either (clock_of M D q).refusal.number (λ a. (clock_makes M D q m a).0) (λ r. rw (clock_unchanged M D q r) s)

module _ (M D : ℕ) (q : Queue) where
  pub take_sound : soundb M D q ≡ true → soundb M D (take_of M D q).queue ≡ true
  take_sound s = either (take_of M D q).refusal.number (λ a. (take_makes M D q a).0) (λ r. rw (take_unchanged M D q r).1 s)

module _ (M D : ℕ) (q : Queue) where
  pub push_back_sound : soundb M D q ≡ true → soundb M D (push_back_of M D q).queue ≡ true
  push_back_sound s = either (push_back_of M D q).refusal.number (λ a. (push_back_makes M D q a).0) (λ r. rw (push_back_unchanged M D q r) s)
