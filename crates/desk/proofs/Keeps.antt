-- WHAT HOLDS OF EVERY RUN from an accepted setup on, message by message and batch by batch, so that the laws of sound states apply to it. Assumes nothing.
use mathlib.Core.Path.{◌≡◌, refl}
use mathlib.Core.Bool.{Bool, true, false}
use mathlib.Core.List.{List}
use Prim.Native.Nat.{ℕ, ◌+◌}
use native.Mathlib.Omega.{arith}
use lib.Dec.{ltb, eqb}
use borrow.Author.Tests.{ltb-false}
use Rattle.small.specs.Small.{pick}
use Rattle.refusal.specs.Numbers.{ticks_passed}
use Rattle.queue.specs.Limits.{longest}
use Rattle.table.specs.Limits.{most_work}
use Rattle.setup.specs.Read.{read_of as setup_of}
use Rattle.setup.proofs.RoundTrip.{accepted_sound}
use Rattle.message.specs.Message.{read_of}
use Rattle.message.specs.declared.Message.{Message}
use Rattle.message.specs.declared.Message.TheVariants.{Run, Arrival}
use Rattle.state.specs.Sound.{stateb}
use Rattle.state.proofs.Keeps.{fresh_sound}
use Rattle.state.proofs.Laws.{fresh_made}
use Rattle.scheduler.specs.Run.{ticks_in}
use Rattle.scheduler.proofs.Keeps.{arrive_sound, ticks_sound}
use Rattle.lines.specs.declared.Line.TheVariants.{Nothing, Refused}
use Rattle.desk.specs.Desk.{tick_limit, desk_with, met, open_of, asked_of, arrived_of, done_of, message_of, ran_of}
use Rattle.desk.specs.Trace.{behind_left}
use Rattle.desk.specs.Meaning.{Kept}
use Rattle.desk.specs.declared.Desk.{Desk}
use Rattle.desk.proofs.OneBatch.{batch_is}
use Rattle.desk.proofs.Refusals.{run_on_accepted}

-- THE SETUP

pub opened_sound : (bs : List ℕ) → (open_of bs).refusal.number ≡ 0 → stateb (open_of bs).desk.state ≡ true
unfolding open_of
opened_sound bs a =
    let t = (setup_of longest most_work bs).table in
    let h = (accepted_sound longest most_work bs a).0 in
    rw (fresh_made t h) (fresh_sound t h)

-- no tick is run, and none left
pub opened_kept : (bs : List ℕ) → (open_of bs).refusal.number ≡ 0 → Kept (open_of bs).desk
unfolding open_of
opened_kept bs a = record { sound = opened_sound bs a; within = omega arith }

-- A MESSAGE, accepted or refused

module _ (d : Desk) (k : ℕ) (w : Kept d) where
  asked_kept : (n : ℕ) → Kept (asked_of d n k).desk
  unfolding asked_of
  asked_kept n = go (ltb tick_limit (d.ran + d.left + n)) refl
    where
      go : (b : Bool) → ltb tick_limit (d.ran + d.left + n) ≡ b
          → Kept (pick b (met d (Refused ticks_passed k) true) (met (desk_with d.state d.ran (d.left + n)) Nothing false)).desk
      go true e = w
      go false e = record { sound = w.sound; within = omega (arith, ltb-false tick_limit (d.ran + d.left + n) e) }

  arrived_kept : (i j : ℕ) → Kept (arrived_of d i j k).desk
  unfolding arrived_of
  arrived_kept i j = record { sound = arrive_sound d.state w.sound i j; within = w.within }

  done_kept : (m : Message) → Kept (done_of d k m).desk
  done_kept (Run n) = asked_kept n
  done_kept (Arrival i j) = arrived_kept i j

  pub message_kept : (bs : List ℕ) → Kept (message_of d k bs).desk
  unfolding message_of
  message_kept bs = rw w.sound (go (eqb (read_of bs).refusal.number 0))
    where
      go : (b : Bool) → Kept (pick b (done_of d k (read_of bs).message) (met d (Refused (read_of bs).refusal.number k) true)).desk
      go true = done_kept (read_of bs).message
      go false = w

-- ITS TICKS

module _ (d : Desk) (w : Kept d) where
  -- a batch of them
  -- so no batch of it is refused
  pub batch_accepted : (ran_of d).refusal.number ≡ 0
  batch_accepted = (run_on_accepted d).1 (w.sound, w.within)

  pub batch_kept : Kept (ran_of d).desk
  batch_kept =
      rw (batch_is d w.sound w.within)
      record { sound = ticks_sound (ticks_in d.left) d.state w.sound; within = omega (arith, w.within) }

  -- and all of them
  pub ticks_kept : Kept (behind_left d)
  ticks_kept = record { sound = ticks_sound d.left d.state w.sound; within = omega (arith, w.within) }
