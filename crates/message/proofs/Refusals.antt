-- "Given exactly when": each refusal number of the reader and of the writer of messages, and number 0 where a call is not refused. Assumes nothing.
use mathlib.Core.Path.{◌≡◌, refl, ap}
use mathlib.Core.Bool.{Bool, true, false, not}
use mathlib.Core.List.{List, ◌∷◌}
use mathlib.Core.Logic.Iff
use mathlib.Core.Logic.{◌↔◌, ◌≢◌, ◌⊎◌, inl, inr, ⊎_elim}
use Prim.Native.Nat.{ℕ, ◌≤◌, ◌<◌}
use native.Mathlib.Omega.{arith}
use lib.ListN.{length, drop}
use borrow.Author.Tests.{eq-eqb, ne_eqb, eqb-true, eqb-false, lt-ltb, le-ltb, ltb-true, ltb-false, not-true, not-false}
use Rattle.small.specs.Small.{pick}
use Rattle.refusal.specs.Numbers.{message_cut, message_length, message_version, message_kind, buffer_short}
use Rattle.refusal.specs.Refusal.{Check, first_of}
use Rattle.refusal.proofs.Exactly.{number_when, none_when, no_place}
use Rattle.field.specs.Field.{byte_of, field_of}
use Rattle.field.proofs.Answers.{written_place}
use Rattle.message.specs.Message.{read_checks, read_of, raw_bytes, write_checks, write_refusal}
use Rattle.message.specs.Meaning.{write_of}
use Rattle.message.proofs.Cases.{other_kind_lem, known_kind_lem}
use Rattle.message.proofs.Answers.{read_decided, write_number}

-- a number that stands twice: the first of its checks holds, or it does not and those after it give the number
first_or_after : (c : Check) (cs : List Check) → (first_of (c ∷ cs)).number ≡ c.refusal.number
    ↔ ((c.holds ≡ true) ⊎ ((c.holds ≡ false) × ((first_of cs).number ≡ c.refusal.number)))
first_or_after c cs = (forth c.holds refl, back)
  where
    forth : (b : Bool) → c.holds ≡ b → (pick b c.refusal (first_of cs)).number ≡ c.refusal.number
        → (c.holds ≡ true) ⊎ ((c.holds ≡ false) × ((first_of cs).number ≡ c.refusal.number))
    forth true e n = inl e
    forth false e n = inr (e, n)

    back : (c.holds ≡ true) ⊎ ((c.holds ≡ false) × ((first_of cs).number ≡ c.refusal.number)) → (first_of (c ∷ cs)).number ≡ c.refusal.number
    back (inl e) = rw e
    back (inr h) = rw h.0 h.1

-- READ

module _ (bs : List ℕ) where
  read_number : (read_of bs).refusal.number ≡ (first_of (read_checks bs)).number
  read_number = (read_decided bs).number

  -- "message not whole": "under 2 bytes 14, then 15, under 6 bytes 14"
  pub read_14 : (read_of bs).refusal.number ≡ message_cut ↔ ((length bs < 2) ⊎ ((2 ≤ length bs) × (length bs < 6) × (field_of 2 bs ≡ 6)))
  read_14 =
      rw read_number
      (Iff.trans (first_or_after _ (drop 1 (read_checks bs))) (
        ⊎_elim (λ h. inl (ltb-true _ 2 h)) (λ h. inr ((after (ltb-false (length bs) 2 h.0)).0 h.1)),
        ⊎_elim (λ h. inl (lt-ltb _ 2 h)) (λ h. inr (le-ltb (length bs) 2 h.0, (after h.0).1 h)),
      ))
    where
      after : 2 ≤ length bs → (first_of (drop 1 (read_checks bs))).number ≡ message_cut ↔ (2 ≤ length bs) × (length bs < 6) × (field_of 2 bs ≡ 6)
      after l =
          number_when _ (drop 1 (read_checks bs)) refl 1 refl refl
          (λ h. (l, ltb-true (length bs) 6 h.1, eqb-true _ 6 (not-false _ h.0.0)))
          (λ h. ((ap not (eq-eqb _ 6 h.2), tt), lt-ltb (length bs) 6 h.1))

  -- "message length not 6"
  pub read_15 : (read_of bs).refusal.number ≡ message_length ↔ (2 ≤ length bs) × (field_of 2 bs ≢ 6)
  read_15 =
      number_when _ (read_checks bs) read_number 1 refl refl
      (λ h. (ltb-false (length bs) 2 h.0.0, eqb-false _ 6 (not-true _ h.1)))
      (λ h. ((le-ltb _ 2 h.0, tt), ap not (ne_eqb _ 6 h.1)))

  -- "message version not 1"
  pub read_16 : (read_of bs).refusal.number ≡ message_version ↔ (6 ≤ length bs) × (field_of 2 bs ≡ 6) × (byte_of 2 bs ≢ 1)
  read_16 =
      number_when _ (read_checks bs) read_number 3 refl refl
      (λ h. (ltb-false (length bs) 6 h.0.1.1.0, eqb-true _ 6 (not-false _ h.0.1.0), eqb-false _ 1 (not-true _ h.1)))
      (λ h. ((le-ltb (length bs) 2 (omega arith), (ap not (eq-eqb _ 6 h.1), (le-ltb _ 6 h.0, tt))), ap not (ne_eqb _ 1 h.2)))

  -- "message kind not 1 or 2"
  pub read_17 : (read_of bs).refusal.number ≡ message_kind
      ↔ (6 ≤ length bs) × (field_of 2 bs ≡ 6) × (byte_of 2 bs ≡ 1) × (byte_of 3 bs ≢ 1) × (byte_of 3 bs ≢ 2)
  read_17 =
      number_when _ (read_checks bs) read_number 4 refl refl
      (λ h. let k = (other_kind_lem (byte_of 3 bs)).0 h.1 in
      (ltb-false (length bs) 6 h.0.1.1.0, eqb-true _ 6 (not-false _ h.0.1.0), eqb-true _ 1 (not-false _ h.0.1.1.1.0), k.0, k.1))
      (λ h.
      ((le-ltb (length bs) 2 (omega arith), (ap not (eq-eqb _ 6 h.1), (le-ltb _ 6 h.0, (ap not (eq-eqb _ 1 h.2), tt)))), (other_kind_lem (byte_of 3 bs)).1 (h.3, h.4)))

  -- and no refusal exactly when no test holds
  pub read_accepted : (read_of bs).refusal.number ≡ 0
      ↔ (6 ≤ length bs) × (field_of 2 bs ≡ 6) × (byte_of 2 bs ≡ 1) × ((byte_of 3 bs ≡ 1) ⊎ (byte_of 3 bs ≡ 2))
  read_accepted =
      none_when _ (read_checks bs) read_number refl
      (λ h. (
        ltb-false (length bs) 6 h.1.1.0,
        eqb-true _ 6 (not-false _ h.1.0),
        eqb-true _ 1 (not-false _ h.1.1.1.0),
        (known_kind_lem (byte_of 3 bs)).0 h.1.1.1.1.0,
      ))
      (λ h. (
        le-ltb (length bs) 2 (omega arith),
        (ap not (eq-eqb _ 6 h.1), (le-ltb _ 6 h.0, (ap not (eq-eqb _ 1 h.2), ((known_kind_lem (byte_of 3 bs)).1 h.3, tt)))),
      ))

  -- "the place (0 where none is named below)"
  pub read_place : (read_of bs).refusal.place ≡ 0
  read_place = (read_decided bs).place (no_place (read_checks bs) refl)

-- WRITE, into a buffer

module _ (kind a b : ℕ) (buf : List ℕ) where
  -- "The message writer takes any two bytes; a kind not 1 or 2 is 17"
  pub write_17 : (write_of kind a b buf).refusal.number ≡ message_kind ↔ (kind ≢ 1) × (kind ≢ 2)
  write_17 =
      number_when _ (write_checks kind (length buf)) (write_number kind a b buf) 0 refl refl
      (λ h. (other_kind_lem kind).0 h.1)
      (λ h. (tt, (other_kind_lem kind).1 h))

  -- "buffer too short for what is written", and 32 last
  pub write_32 : (write_of kind a b buf).refusal.number ≡ buffer_short ↔ ((kind ≡ 1) ⊎ (kind ≡ 2)) × (length buf < 6)
  write_32 =
      number_when _ (write_checks kind (length buf)) (write_number kind a b buf) 1 refl refl
      (λ h. ((known_kind_lem kind).0 h.0.0, ltb-true (length buf) 6 h.1))
      (λ h. (((known_kind_lem kind).1 h.0, tt), lt-ltb (length buf) 6 h.1))

  -- and no refusal exactly when no test holds
  pub write_accepted : (write_of kind a b buf).refusal.number ≡ 0 ↔ ((kind ≡ 1) ⊎ (kind ≡ 2)) × (6 ≤ length buf)
  write_accepted =
      none_when _ (write_checks kind (length buf)) (write_number kind a b buf) refl
      (λ h. ((known_kind_lem kind).0 h.0, ltb-false (length buf) 6 h.1.0))
      (λ h. ((known_kind_lem kind).1 h.0, (le-ltb (length buf) 6 h.1, tt)))

  -- "the place (0 where none is named below)"
  pub write_place : (write_of kind a b buf).refusal.place ≡ 0
  write_place = written_place (write_refusal kind (length buf)) (raw_bytes kind a b) (no_place (write_checks kind (length buf)) refl)
