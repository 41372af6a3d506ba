-- Where a refusal number of the reader comes from: 1 to 4 from the start, 5 to 12 from a record that the reader comes to, 13 from what stands behind the
-- last; and when none is given. Assumes nothing.
use mathlib.Core.Path.{◌≡◌, refl, sym, ap, ◌∙◌}
use mathlib.Core.Bool.{true}
use mathlib.Core.List.{List, [], ◌∷◌, ◌++◌}
use mathlib.Core.Logic.Iff
use mathlib.Core.Logic.{◌↔◌, ◌⊎◌, inl, inr, ⊎_elim}
use Prim.Native.Nat.{ℕ, ◌<◌}
use native.Mathlib.Omega.{arith}
use lib.ListN.{length, drop}
use borrow.Author.Tests.{le-ltb}
use Rattle.refusal.specs.Numbers.{bytes_left}
use Rattle.refusal.specs.Refusal.{refused, Check, first_of, Passed}
use Rattle.refusal.specs.declared.Refusal.{Refusal}
use Rattle.refusal.proofs.Exactly.{Other, given_by, other, otherb}
use Rattle.refusal.proofs.Joined.{passed_join, passed_parts, other_join, ranged_other, first_append, first_before, first_behind}
use Rattle.field.specs.Field.{byte_of}
use Rattle.setup.specs.Read.{head_checks, task_checks, start_checks, end_of, setup_checks, read_of}
use Rattle.setup.specs.Records.{StartRight, Rec, records_of, checks_of, AllRight, Reached, AtHead, AtTask, Refused}
use Rattle.setup.specs.Records.Rec.{head, task}
use Rattle.setup.proofs.Records.{all_checks, records_checks, start_right, record_right, all_right}
use Rattle.setup.proofs.Accepted.{record_checks, end_check, start_ranged, servers_ranged, parts, read_refusal}

-- a record of the list whose checks give the refusal, behind records that are right
record Found (D W : ℕ) (bs : List ℕ) (x : Refusal) (rs : List Rec) : Type 0 where
  this : Rec
  before : List Rec
  after : List Rec
  here : rs ≡ before ++ (this ∷ after)
  right : AllRight D W bs before
  first : first_of (checks_of D W bs this) ≡ x

module _ (D W : ℕ) (bs : List ℕ) (x : Refusal) (nz : x.number ≡ 0 → ⊥) where
  found : (rs : List Rec) → first_of (all_checks D W bs rs) ≡ x → Found D W bs x rs
  found [] e = absurd (nz (sym (ap (λ (y : Refusal). y.number) e)))
  found (r ∷ rs) e =
      ⊎_elim
      (λ f. record { this = r; before = []; after = rs; here = refl; right = tt; first = f })
      (λ p. next p.0 (found rs p.1))
      ((first_append x nz (checks_of D W bs r) (all_checks D W bs rs)).0 e)
    where
      next : Passed (checks_of D W bs r) → Found D W bs x rs → Found D W bs x (r ∷ rs)
      next p h = record {
        this = h.this;
        before = r ∷ h.before;
        after = h.after;
        here = ap {B = List Rec} (λ l. r ∷ l) h.here;
        right = ((record_right D W bs r).0 p, h.right);
        first = h.first;
      }

  found_is : (this : Rec) (before after : List Rec) → AllRight D W bs before → first_of (checks_of D W bs this) ≡ x
      → first_of (all_checks D W bs (before ++ (this ∷ after))) ≡ x
  found_is this [] after w e = (first_append x nz (checks_of D W bs this) (all_checks D W bs after)).1 (inl e)
  found_is this (r ∷ rs) after w e =
      (first_append x nz (checks_of D W bs r) (all_checks D W bs (rs ++ (this ∷ after)))).1 (inr ((record_right D W bs r).1 w.0, found_is this rs after w.1 e))

module _ (D W : ℕ) (bs : List ℕ) where
  behind : List Check
  behind = record_checks D W bs ++ (end_check bs ∷ [])

  from_checks : (r : Refusal) → (read_of D W bs).refusal ≡ r ↔ (first_of (start_checks bs ++ behind) ≡ r)
  unfolding setup_checks behind
  from_checks r = (λ e. sym (read_refusal D W bs) ∙ e, λ e. read_refusal D W bs ∙ e)

  records_other : (n : ℕ) → 0 < n → (n < 5) ⊎ (12 < n) → Other n (record_checks D W bs)
  records_other n z h = ranged_other 5 12 n (record_checks D W bs) z h (servers_ranged D W (byte_of 3 bs) 4 (drop 4 bs))

  pub from_start : (n k : ℕ) → 0 < n → n < 5 → Refused D W bs n k ↔ (first_of (start_checks bs) ≡ refused n k)
  unfolding behind
  from_start n k z h =
      let end : Other n (end_check bs ∷ []) = omega arith in
      let others = other_join n (record_checks D W bs) (end_check bs ∷ []) (records_other n z (inl h)) end in
      Iff.trans (from_checks (refused n k)) (first_before (refused n k) (omega arith) (start_checks bs) behind others)

  from_behind : (n k : ℕ) → 4 < n → Refused D W bs n k ↔ StartRight bs × (first_of behind ≡ refused n k)
  from_behind n k h =
      let x = first_behind (refused n k) (omega arith) (start_checks bs) behind (ranged_other 1 4 n (start_checks bs) (omega arith) (inr h) (start_ranged bs)) in
      Iff.trans (from_checks (refused n k)) (Iff.trans x (λ p. ((start_right bs).0 p.0, p.1), λ p. ((start_right bs).1 p.0, p.1)))

  pub from_end : (k : ℕ) → Refused D W bs bytes_left k ↔ StartRight bs × AllRight D W bs (records_of bs) × (first_of (end_check bs ∷ []) ≡ refused bytes_left k)
  unfolding behind
  from_end k =
      let records = record_checks D W bs in
      let x = first_behind (refused bytes_left k) (omega arith) records (end_check bs ∷ []) (records_other bytes_left (omega arith) (inr (omega arith))) in
      let right = all_right D W bs (records_of bs) in
      Iff.trans (from_behind bytes_left k (omega arith)) (
        λ h. let (p, e) = x.0 h.1 in (h.0, right.0 (rw (records_checks D W bs) at p), e),
        λ h. (h.0, x.1 (rw (records_checks D W bs) (right.1 h.1), h.2)),
      )

  -- no check holds
  pub from_none : Passed (setup_checks D W bs) ↔ StartRight bs × AllRight D W bs (records_of bs) × (end_of bs ≡ length bs)
  unfolding setup_checks
  from_none =
      let records = record_checks D W bs in
      let right = all_right D W bs (records_of bs) in (
        λ p.
            let (a, q) = passed_parts (start_checks bs) (records ++ (end_check bs ∷ [])) p in
            let (b, c) = passed_parts records (end_check bs ∷ []) q in
            ((start_right bs).0 a, right.0 (rw (records_checks D W bs) at b), (parts D W bs p).2),
        λ h.
            let end : Passed (end_check bs ∷ []) = (le-ltb (end_of bs) (length bs) (omega (arith, h.2)), tt) in
            passed_join (start_checks bs) (records ++ (end_check bs ∷ [])) ((start_right bs).1 h.0)
            (passed_join records (end_check bs ∷ []) (rw (records_checks D W bs) (right.1 h.1)) end),
      )

  from_records : (n k : ℕ) → 4 < n → n < 13 → Refused D W bs n k ↔ StartRight bs × (first_of (all_checks D W bs (records_of bs)) ≡ refused n k)
  unfolding behind
  from_records n k h m =
      let end : Other n (end_check bs ∷ []) = omega arith in
      rw (← records_checks D W bs)
      (Iff.trans (from_behind n k h)
      (let x = first_before (refused n k) (omega arith) (record_checks D W bs) (end_check bs ∷ []) end in (λ p. (p.0, x.0 p.1), λ p. (p.0, x.1 p.1))))

  pub from_record : (n k : ℕ) → 4 < n → n < 13 → Refused D W bs n k ↔ ((r : Rec) × Reached D W bs r × (first_of (checks_of D W bs r) ≡ refused n k))
  from_record n k h m = Iff.trans (from_records n k h m) (forth, back)
    where
      nz : (refused n k).number ≡ 0 → ⊥
      nz e = omega arith

      forth : StartRight bs × (first_of (all_checks D W bs (records_of bs)) ≡ refused n k) → (r : Rec) × Reached D W bs r × (first_of (checks_of D W bs r) ≡ refused n k)
      forth p =
          let f = found D W bs (refused n k) nz (records_of bs) p.1 in
          (f.this, record { start = p.0; before = f.before; after = f.after; here = f.here; right = f.right }, f.first)

      back : (r : Rec) × Reached D W bs r × (first_of (checks_of D W bs r) ≡ refused n k) → StartRight bs × (first_of (all_checks D W bs (records_of bs)) ≡ refused n k)
      back p = let w = p.1 in (w.start, rw w.here (found_is D W bs (refused n k) nz p.0 w.before w.after w.right p.2))

  module _ (n k : ℕ) (h : 4 < n) (m : n < 13) where
    pub from_either : {P Q : ℕ → Type 0} → ((j : ℕ) → first_of (head_checks D j (drop j bs)) ≡ refused n k ↔ P j)
        → ((j : ℕ) → first_of (task_checks D W j (drop j bs)) ≡ refused n k ↔ Q j) → Refused D W bs n k ↔ (AtHead D W bs P ⊎ AtTask D W bs Q)
    from_either {P} {Q} v w =
        Iff.trans (from_record n k h m) (forth, ⊎_elim (λ p. (head p.0, p.1, (v p.0).1 p.2)) (λ p. (task p.0, p.1, (w p.0).1 p.2)))
      where
        forth : (r : Rec) × Reached D W bs r × (first_of (checks_of D W bs r) ≡ refused n k) → AtHead D W bs P ⊎ AtTask D W bs Q
        forth (head j, c, e) = inl (j, c, (v j).0 e)
        forth (task j, c, e) = inr (j, c, (w j).0 e)

    -- a number that a task's checks, or a head's, do not have
    pub from_head : {P : ℕ → Type 0} → ((j : ℕ) → otherb n (task_checks D W j (drop j bs)) ≡ true)
        → ((j : ℕ) → first_of (head_checks D j (drop j bs)) ≡ refused n k ↔ P j) → Refused D W bs n k ↔ AtHead D W bs P
    from_head {P} o v = Iff.trans (from_record n k h m) (forth, λ p. (head p.0, p.1, (v p.0).1 p.2))
      where
        forth : (r : Rec) × Reached D W bs r × (first_of (checks_of D W bs r) ≡ refused n k) → AtHead D W bs P
        forth (head j, c, e) = (j, c, (v j).0 e)
        forth (task j, c, e) = absurd (given_by n (task_checks D W j (drop j bs)) (other n (task_checks D W j (drop j bs)) (o j)) (ap (λ (x : Refusal). x.number) e))

    pub from_task : {Q : ℕ → Type 0} → ((j : ℕ) → otherb n (head_checks D j (drop j bs)) ≡ true)
        → ((j : ℕ) → first_of (task_checks D W j (drop j bs)) ≡ refused n k ↔ Q j) → Refused D W bs n k ↔ AtTask D W bs Q
    from_task {Q} o w = Iff.trans (from_record n k h m) (forth, λ p. (task p.0, p.1, (w p.0).1 p.2))
      where
        forth : (r : Rec) × Reached D W bs r × (first_of (checks_of D W bs r) ≡ refused n k) → AtTask D W bs Q
        forth (task j, c, e) = (j, c, (w j).0 e)
        forth (head j, c, e) = absurd (given_by n (head_checks D j (drop j bs)) (other n (head_checks D j (drop j bs)) (o j)) (ap (λ (x : Refusal). x.number) e))
