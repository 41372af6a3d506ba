-- REFUSALS: exactly when a setup, a message or a batch of ticks is refused with a number, and which messages stop the run. Assumes nothing.
use mathlib.Core.Path.{◌≡◌, refl, sym, ap, ◌∙◌}
use mathlib.Core.Bool.{true, false, not}
use mathlib.Core.List.{List}
use mathlib.Core.Logic.{◌↔◌, ◌≢◌, ◌⊎◌, inl, inr, ⊎_elim}
use Prim.Native.Nat.{ℕ, ◌+◌, ◌≤◌, ◌<◌}
use native.Mathlib.Omega.{arith}
use borrow.Author.Tests.{lt-ltb, le-ltb, ltb-true, ltb-false, not-true, not-false}
use Rattle.small.proofs.Tests.{contrary}
use Rattle.refusal.specs.Numbers.{ticks_passed, unsound}
use Rattle.refusal.specs.Refusal.{none}
use Rattle.refusal.proofs.Exactly.{number_when, none_when, no_place}
use Rattle.queue.specs.Limits.{longest}
use Rattle.table.specs.Limits.{most_work}
use Rattle.setup.specs.Read.{read_of as setup_of}
use Rattle.message.specs.Message.{Reading, kind_of, read_with, read_of}
use Rattle.message.specs.declared.Message.TheVariants.{Run, Arrival}
use Rattle.message.proofs.Unchanged.{read_zero}
use Rattle.state.specs.Sound.{stateb}
use Rattle.scheduler.specs.Arrive.{arrive_of}
use Rattle.scheduler.proofs.Refusals.{arrive_31}
use Rattle.desk.specs.Desk.{Met, tick_limit, open_of, message_of, ran_checks, ran_of}
use Rattle.desk.specs.Meaning.{line_number}
use Rattle.desk.specs.declared.Desk.{Desk}
use Rattle.desk.proofs.Cases.{message_unsound, message_unread, message_past, message_runs, message_arrives, message_cases, arrive_numbers, arrive_sound_by, arrive_not_21, unread_numbers, arrived_number, arrived_goes_on, run_on_decided}

-- THE SETUP is refused as its reader refuses it, at the same place
pub open_refusal : (bs : List ℕ) → (open_of bs).refusal ≡ (setup_of longest most_work bs).refusal
unfolding open_of
open_refusal bs = refl

-- EXACTLY WHEN

module _ (d : Desk) (k : ℕ) (bs : List ℕ) where
  abbrev m : Met
  m = message_of d k bs

  -- what its line's number is, case by case
  number_from : (n : ℕ) (Q : Type 0)
      → (stateb d.state ≡ false → unsound ≡ n → Q)
      → (stateb d.state ≡ true → (read_of bs).refusal.number ≢ 0 → (read_of bs).refusal.number ≡ n → Q)
      → (stateb d.state ≡ true → (q : ℕ) → read_of bs ≡ read_with none (Run q) → tick_limit < d.ran + d.left + q → ticks_passed ≡ n → Q)
      → (stateb d.state ≡ true → (q : ℕ) → read_of bs ≡ read_with none (Run q) → d.ran + d.left + q ≤ tick_limit → 0 ≡ n → Q)
      → (stateb d.state ≡ true → (i j : ℕ) → read_of bs ≡ read_with none (Arrival i j) → (arrive_of d.state i j).refusal.number ≡ n → Q)
      → line_number m.line ≡ n → Q
  number_from n Q other unread past runs arrives =
      message_cases d k bs (λ (x : Met). line_number x.line ≡ n → Q) other unread past runs (λ s i j e f. arrives s i j e (sym (arrived_number d i j k) ∙ f))

  -- and what it is in a case
  number_in : {x : Met} → m ≡ x → line_number m.line ≡ line_number x.line
  number_in e = ap (λ (x : Met). line_number x.line) e

  -- "queue, state or table handed in isn't sound", which comes first
  pub message_31 : line_number m.line ≡ unsound ↔ (stateb d.state ≡ false)
  message_31 = (
    number_from unsound (stateb d.state ≡ false)
        (λ s e. s)
        (λ s h e. absurd (unread_numbers bs unsound (omega arith) e))
        (λ s q e h f. absurd (omega arith))
        (λ s q e h f. absurd (omega arith))
        (λ s i j e f. (arrive_31 d.state i j).0 f),
    λ s. number_in (message_unsound d k bs s),
  )

  -- so it is never given to a run from an accepted setup, whose state is sound (proofs/Keeps.antt)
  pub message_never_31 : stateb d.state ≡ true → line_number m.line ≢ unsound
  message_never_31 h e = contrary h (message_31.0 e)

  -- "program: the message would pass 1,000,000 ticks", with those that are left
  pub message_21 : line_number m.line ≡ ticks_passed
      ↔ (stateb d.state ≡ true) × ((n : ℕ) × (read_of bs ≡ read_with none (Run n)) × (tick_limit < d.ran + d.left + n))
  message_21 = (
    number_from ticks_passed _
        (λ s f. absurd (omega arith))
        (λ s h e. absurd (unread_numbers bs ticks_passed (omega arith) e))
        (λ s q e h f. (s, (q, e, h)))
        (λ s q e h f. absurd (omega arith))
        (λ s i j e f. absurd (arrive_not_21 d.state i j f)),
    λ h. number_in (message_past d k bs h.0 h.1.0 h.1.1 h.1.2),
  )

  -- 14 to 17 are the reader's
  pub message_unread_when : (n : ℕ) → 0 < n → n < 18 → line_number m.line ≡ n ↔ (stateb d.state ≡ true) × ((read_of bs).refusal.number ≡ n)
  message_unread_when n z l = (
    number_from n _
        (λ s f. absurd (omega arith))
        (λ s h e. (s, e))
        (λ s q e h f. absurd (omega arith))
        (λ s q e h f. absurd (omega arith))
        (λ s i j e f. absurd (arrive_numbers d.state i j n z l f)),
    λ h. number_in (message_unread d k bs h.0 (λ f. omega (arith, h.1))) ∙ h.1,
  )

  -- 18 to 20 are the arrival call's
  pub message_arrival_when : (n : ℕ) → 17 < n → n < ticks_passed
      → line_number m.line ≡ n ↔ ((i j : ℕ) × (read_of bs ≡ read_with none (Arrival i j)) × ((arrive_of d.state i j).refusal.number ≡ n))
  message_arrival_when n l o = (
    number_from n _
        (λ s f. absurd (omega arith))
        (λ s h e. absurd (unread_numbers bs n l e))
        (λ s q e h f. absurd (omega arith))
        (λ s q e h f. absurd (omega arith))
        (λ s i j e f. (i, j, e, f)),
    λ h. let (i, j, e, f) = h in
        let s = arrive_sound_by d.state i j (λ g. omega arith) in
        number_in (message_arrives d k bs s i j e) ∙ arrived_number d i j k ∙ f,
  )

  -- and no refusal exactly when the state is sound and it asks for ticks within the limit, or for an arrival that is not refused
  pub message_accepted : line_number m.line ≡ 0
      ↔ (stateb d.state ≡ true)
      × (((n : ℕ) × (read_of bs ≡ read_with none (Run n)) × (d.ran + d.left + n ≤ tick_limit))
      ⊎ ((i j : ℕ) × (read_of bs ≡ read_with none (Arrival i j)) × ((arrive_of d.state i j).refusal.number ≡ 0)))
  message_accepted = (
    number_from 0 _
        (λ s f. absurd (omega arith))
        (λ s h f. absurd (h f))
        (λ s q e h f. absurd (omega arith))
        (λ s q e h f. (s, inl (q, e, h)))
        (λ s i j e f. (s, inr (i, j, e, f))),
    λ h.
        ⊎_elim
        (λ x. number_in (message_runs d k bs h.0 x.0 x.1 x.2))
        (λ x. number_in (message_arrives d k bs h.0 x.0 x.1 x.2) ∙ arrived_number d x.0 x.1 k ∙ x.3)
        h.1,
  )

  -- "A refused arrival writes `refused N at K` .. and the run goes on. Other refusals write that line and stop": kind 2 is an arrival, which is itself
  -- refused only where the state is sound
  pub message_stops : m.stop ≡ true ↔ (line_number m.line ≢ 0) × ((kind_of (read_of bs).message ≢ 2) ⊎ (stateb d.state ≡ false))
  message_stops = (
    message_cases d k bs (λ (x : Met). x.stop ≡ true → (line_number x.line ≢ 0) × ((kind_of (read_of bs).message ≢ 2) ⊎ (stateb d.state ≡ false)))
        (λ s f. (λ z. omega arith, inr s))
        (λ s h f. (h, inl (λ e. absurd (no_arrival (sym (ap kind_of (read_zero bs h)) ∙ e)))))
        (λ s n e h f. (λ z. omega arith, inl (λ g. no_arrival (sym (ap (λ (r : Reading). kind_of r.message) e) ∙ g))))
        (λ s n e h f. contrary f refl)
        (λ s i j e f. contrary f (arrived_goes_on d i j k)),
    λ h.
        message_cases d k bs (λ (x : Met). line_number x.line ≢ 0 → x.stop ≡ true)
        (λ s z. refl)
        (λ s f z. refl)
        (λ s n e f z. refl)
        (λ s n e f z. absurd (z refl))
        (λ s i j e z. ⊎_elim (λ g. absurd (g (ap (λ (r : Reading). kind_of r.message) e))) (λ g. contrary s g) h.1)
        h.0,
  )
    where
      no_arrival : ◌≡◌ {A = ℕ} 1 2 → ⊥
      no_arrival e = omega arith

-- A BATCH OF TICKS

module _ (d : Desk) where
  -- "queue, state or table handed in isn't sound", which comes first
  pub run_on_31 : (ran_of d).refusal.number ≡ unsound ↔ (stateb d.state ≡ false)
  run_on_31 = number_when _ (ran_checks d) (run_on_decided d).number 0 refl refl (λ h. not-true _ h.1) (λ h. (tt, ap not h))

  -- the ticks that are left would pass 1,000,000
  pub run_on_21 : (ran_of d).refusal.number ≡ ticks_passed ↔ (stateb d.state ≡ true) × (tick_limit < d.ran + d.left)
  run_on_21 =
      number_when _ (ran_checks d) (run_on_decided d).number 1 refl refl
      (λ h. (not-false _ h.0.0, ltb-true tick_limit (d.ran + d.left) h.1))
      (λ h. ((ap not h.0, tt), lt-ltb tick_limit (d.ran + d.left) h.1))

  -- and no refusal exactly when neither holds
  pub run_on_accepted : (ran_of d).refusal.number ≡ 0 ↔ (stateb d.state ≡ true) × (d.ran + d.left ≤ tick_limit)
  run_on_accepted =
      none_when _ (ran_checks d) (run_on_decided d).number refl
      (λ h. (not-false _ h.0, ltb-false tick_limit (d.ran + d.left) h.1.0))
      (λ h. (ap not h.0, (le-ltb tick_limit (d.ran + d.left) h.1, tt)))

  -- "the place (0 where none is named below)"
  pub run_on_place : (ran_of d).refusal.place ≡ 0
  run_on_place = (run_on_decided d).place (no_place (ran_checks d) refl)
