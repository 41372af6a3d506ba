-- What a message comes to, case by case, the numbers that the calls below give, and what the answer of a batch says of its refusal. Assumes nothing.
use mathlib.Core.Path.{◌≡◌, refl, sym, ◌∙◌}
use mathlib.Core.Bool.{Bool, true, false}
use mathlib.Core.List.{List}
use mathlib.Core.Logic.{◌≢◌, inl, inr}
use Prim.Native.Nat.{ℕ, ◌+◌, ◌≤◌, ◌<◌}
use native.Mathlib.Omega.{arith}
use lib.Dec.{ltb, eqb}
use borrow.Author.Tests.{eqb-true, eqb-false, ne_eqb, lt-ltb, le-ltb, ltb-true, ltb-false}
use Rattle.small.specs.Small.{pick}
use Rattle.refusal.specs.Numbers.{ticks_passed, unsound}
use Rattle.refusal.specs.Refusal.{none, first_of}
use Rattle.refusal.proofs.Decided.{Decided, decided}
use Rattle.refusal.proofs.Exactly.{other, given_by}
use Rattle.refusal.proofs.Joined.{Ranged, ranged_other}
use Rattle.message.specs.Message.{read_with, read_checks, read_of}
use Rattle.message.specs.declared.Message.{Message}
use Rattle.message.specs.declared.Message.TheVariants.{Run, Arrival}
use Rattle.message.proofs.Answers.{read_decided}
use Rattle.state.specs.Sound.{stateb}
use Rattle.state.specs.declared.State.{State}
use Rattle.scheduler.specs.Arrive.{Arrived, arrival_number, arrive_checks, arrive_of}
use Rattle.scheduler.proofs.Refusals.{arrive_31}
use Rattle.scheduler.proofs.Unchanged.{arrive_unchanged}
use Rattle.lines.specs.declared.Line.TheVariants.{Nothing, Refused, Lost}
use Rattle.desk.specs.Desk.{RanOn, Met, tick_limit, desk_with, met, asked_of, arrived_of, done_of, message_of, ran_checks, not_run, next_batch, ran_of}
use Rattle.desk.specs.Meaning.{line_number}
use Rattle.desk.specs.declared.Desk.{Desk}

-- A MESSAGE: WHAT IT COMES TO

module _ (d : Desk) (k : ℕ) (bs : List ℕ) where
  -- one to a run whose state is not sound
  pub message_unsound : stateb d.state ≡ false → message_of d k bs ≡ met d (Refused unsound k) true
  unfolding message_of
  message_unsound h = rw h

  module _ (s : stateb d.state ≡ true) where
    -- one that the reader refuses
    pub message_unread : (read_of bs).refusal.number ≢ 0 → message_of d k bs ≡ met d (Refused (read_of bs).refusal.number k) true
    unfolding message_of
    message_unread h = rw (s, ne_eqb (read_of bs).refusal.number 0 h)

    message_done : (m : Message) → read_of bs ≡ read_with none m → message_of d k bs ≡ done_of d k m
    unfolding message_of
    message_done m e = rw (s, e)

    -- ticks that would pass the limit, ticks that do not, and an arrival
    pub message_past : (n : ℕ) → read_of bs ≡ read_with none (Run n) → tick_limit < d.ran + d.left + n → message_of d k bs ≡ met d (Refused ticks_passed k) true
    unfolding asked_of
    message_past n e h = message_done (Run n) e ∙ rw (lt-ltb tick_limit (d.ran + d.left + n) h)

    pub message_runs : (n : ℕ) → read_of bs ≡ read_with none (Run n) → d.ran + d.left + n ≤ tick_limit
        → message_of d k bs ≡ met (desk_with d.state d.ran (d.left + n)) Nothing false
    unfolding asked_of
    message_runs n e h = message_done (Run n) e ∙ rw (le-ltb tick_limit (d.ran + d.left + n) h)

    pub message_arrives : (i j : ℕ) → read_of bs ≡ read_with none (Arrival i j) → message_of d k bs ≡ arrived_of d i j k
    message_arrives i j e = message_done (Arrival i j) e

  -- and it is one of the five
  pub message_cases : (P : Met → Type 0)
      → (stateb d.state ≡ false → P (met d (Refused unsound k) true))
      → (stateb d.state ≡ true → (read_of bs).refusal.number ≢ 0 → P (met d (Refused (read_of bs).refusal.number k) true))
      → (stateb d.state ≡ true → (n : ℕ) → read_of bs ≡ read_with none (Run n) → tick_limit < d.ran + d.left + n → P (met d (Refused ticks_passed k) true))
      → (stateb d.state ≡ true → (n : ℕ) → read_of bs ≡ read_with none (Run n) → d.ran + d.left + n ≤ tick_limit
      → P (met (desk_with d.state d.ran (d.left + n)) Nothing false))
      → (stateb d.state ≡ true → (i j : ℕ) → read_of bs ≡ read_with none (Arrival i j) → P (arrived_of d i j k))
      → P (message_of d k bs)
  message_cases P other unread past runs arrives = sound (stateb d.state) refl
    where
      asked : stateb d.state ≡ true → (n : ℕ) → read_of bs ≡ read_with none (Run n) → (b : Bool) → ltb tick_limit (d.ran + d.left + n) ≡ b
          → P (message_of d k bs)
      asked s n e true h = let l = ltb-true tick_limit (d.ran + d.left + n) h in rw (message_past s n e l) (past s n e l)
      asked s n e false h = let l = ltb-false tick_limit (d.ran + d.left + n) h in rw (message_runs s n e l) (runs s n e l)

      done : stateb d.state ≡ true → (m : Message) → read_of bs ≡ read_with none m → P (message_of d k bs)
      done s (Run n) e = asked s n e (ltb tick_limit (d.ran + d.left + n)) refl
      done s (Arrival i j) e = rw (message_arrives s i j e) (arrives s i j e)

      read : stateb d.state ≡ true → (b : Bool) → eqb (read_of bs).refusal.number 0 ≡ b → P (message_of d k bs)
      read s true e = done s _ ((read_decided bs).passed (eqb-true (read_of bs).refusal.number 0 e)).1
      read s false e = let h = eqb-false (read_of bs).refusal.number 0 e in rw (message_unread s h) (unread s h)

      sound : (b : Bool) → stateb d.state ≡ b → P (message_of d k bs)
      sound true s = read s (eqb (read_of bs).refusal.number 0) refl
      sound false s = rw (message_unsound s) (other s)

-- THE NUMBERS THAT THE CALLS BELOW GIVE: the reader 14 to 17, the arrival 18 to 20 and 31

pub unread_numbers : (bs : List ℕ) (n : ℕ) → 17 < n → (read_of bs).refusal.number ≢ n
unread_numbers bs n h e =
    let range : Ranged 14 17 (read_checks bs) =
    (omega arith, omega arith, (omega arith, omega arith, (omega arith, omega arith, (omega arith, omega arith, (omega arith, omega arith, tt))))) in
    given_by n (read_checks bs) (ranged_other 14 17 n (read_checks bs) (omega arith) (inr h) range) (sym (read_decided bs).number ∙ e)

module _ (s : State) (i j : ℕ) where
  arrive_number : (arrive_of s i j).refusal.number ≡ (first_of (arrive_checks s i j)).number
  unfolding arrive_of
  arrive_number = (decided (λ (a : Arrived). a.refusal) (first_of (arrive_checks s i j)) _ _ (arrive_of s i j) refl refl refl).number

  pub arrive_numbers : (n : ℕ) → 0 < n → n < 18 → (arrive_of s i j).refusal.number ≢ n
  arrive_numbers n z h e =
      let range : Ranged 18 31 (arrive_checks s i j) =
      (omega arith, omega arith, (omega arith, omega arith, (omega arith, omega arith, (omega arith, omega arith, tt)))) in
      given_by n (arrive_checks s i j) (ranged_other 18 31 n (arrive_checks s i j) z (inl h) range) (sym arrive_number ∙ e)

  -- where it is not 31 the state is sound
  pub arrive_sound_by : (arrive_of s i j).refusal.number ≢ unsound → stateb s ≡ true
  arrive_sound_by h = go (stateb s) refl
    where
      go : (b : Bool) → stateb s ≡ b → stateb s ≡ true
      go true e = e
      go false e = absurd (h ((arrive_31 s i j).1 e))

  pub arrive_not_21 : (arrive_of s i j).refusal.number ≢ ticks_passed
  arrive_not_21 e = given_by ticks_passed (arrive_checks s i j) (other ticks_passed (arrive_checks s i j) refl) (sym arrive_number ∙ e)

-- an arrival's line tells of its refusal
pub arrived_number : (d : Desk) (i j k : ℕ) → line_number (arrived_of d i j k).line ≡ (arrive_of d.state i j).refusal.number
unfolding arrived_of
arrived_number d i j k = let a = arrive_of d.state i j in go a.refusal.number (eqb a.refusal.number 0) refl (eqb (arrival_number a.arrival) 0)
  where
    go : (n : ℕ) (b : Bool) → eqb n 0 ≡ b → (c : Bool) → line_number (pick b (pick c Nothing (Lost i j)) (Refused n k)) ≡ n
    go n true e true = sym (eqb-true n 0 e)
    go n true e false = sym (eqb-true n 0 e)
    go n false e c = refl

-- the run goes on behind it
pub arrived_goes_on : (d : Desk) (i j k : ℕ) → (arrived_of d i j k).stop ≡ false
unfolding arrived_of
arrived_goes_on d i j k = refl

-- and a refused one leaves the run as it was
pub arrived_refused : (d : Desk) (i j k : ℕ) → (arrive_of d.state i j).refusal.number ≢ 0
    → ((arrived_of d i j k).line ≡ Refused (line_number (arrived_of d i j k).line) k) × ((arrived_of d i j k).desk ≡ d)
unfolding arrived_of
arrived_refused d i j k h =
    (rw (ne_eqb (arrive_of d.state i j).refusal.number 0 h), λ n. desk_with ((arrive_unchanged d.state i j h).0 n) d.ran d.left)

-- A BATCH OF TICKS

module _ (d : Desk) where
  pub run_on_decided : Decided (λ (r : RanOn). r.refusal) (first_of (ran_checks d)) (next_batch d) (not_run (first_of (ran_checks d)) d) (ran_of d)
  unfolding ran_of
  run_on_decided = decided (λ (r : RanOn). r.refusal) (first_of (ran_checks d)) (next_batch d) (not_run (first_of (ran_checks d)) d) (ran_of d) refl refl refl
