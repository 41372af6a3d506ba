-- "Given exactly when": each refusal number of the reader with its place, and number 0 where a setup is not refused; then the writer's numbers. The words
-- are those of specs/Records.antt. D is the longest period and offset, W the most work. Assumes nothing.
use mathlib.Core.Path.{◌≡◌, refl, ap, ◌∙◌}
use mathlib.Core.Bool.{true, false, not}
use mathlib.Core.List.{List, [], ◌∷◌}
use mathlib.Core.Logic.Iff
use mathlib.Core.Logic.{◌↔◌, ◌≢◌, ◌⊎◌, inl, inr, ⊎_elim}
use Prim.Native.Nat.{ℕ, ◌+◌, ◌≤◌, ◌<◌}
use native.Mathlib.Omega.{arith}
use lib.Dec.{ltb}
use lib.ListN.{length, take, drop}
use borrow.Author.Tests.{ltb-true, lt-ltb, ltb-false, le-ltb, not-true, not-false}
use Rattle.refusal.specs.Numbers.{setup_short, length_differs, setup_version, server_count, record_cut, server_kind, task_count, period_range, budget_range, release_kind, work_range, release_times, bytes_left, unsound, buffer_short}
use Rattle.refusal.specs.Refusal.{refused, none, first_of, First}
use Rattle.refusal.proofs.Exactly.{given, other, number_when, none_when, no_place}
use Rattle.refusal.proofs.Joined.{passed_none, ranged_first, first_append, first_behind, refusal_when}
use Rattle.field.specs.Field.{byte_of, field_of}
use Rattle.field.proofs.Answers.{written_number, written_place}
use Rattle.table.specs.Limits.{entries}
use Rattle.table.specs.Meaning.{Within}
use Rattle.table.specs.Sound.{tableb}
use Rattle.table.specs.declared.Table.{Table}
use Rattle.setup.specs.Layout.{bytes_of}
use Rattle.setup.specs.Write.{write_checks, write_refusal, write_answer}
use Rattle.setup.specs.Read.{head_size, head_checks, task_size, task_checks, start_checks, end_of, setup_checks, read_of}
use Rattle.setup.specs.Records.{StartRight, Rec, records_of, checks_of, AllRight, Reached, AtHead, AtTask, Refused}
use Rattle.setup.specs.Records.{HeadWhole, KindKnown, TasksFew, PFits, CFits, TaskWhole, ReleaseKnown, EFits, TFits, OFits}
use Rattle.setup.proofs.Records.{wrong, equal_test, below_test, range_test}
use Rattle.setup.proofs.Records.{whole_test, cut_test, kind_test, tasks_test, P_test, C_test, release_test, E_test, T_test, O_test}
use Rattle.setup.proofs.Origins.{from_start, from_end, from_none, from_record, from_either, from_head, from_task}
use Rattle.setup.proofs.Accepted.{end_check, setup_ranged, read_refusal, read_passed}

module _ (D W : ℕ) (bs : List ℕ) where
  -- THE START

  -- "setup under 4 bytes"; "0 for 1 and 2"
  pub setup_1 : (k : ℕ) → Refused D W bs setup_short k ↔ (k ≡ 0) × (length bs < 4)
  unfolding start_checks
  setup_1 k =
      Iff.trans (from_start D W bs setup_short k (omega arith) (omega arith))
      (Iff.trans (refusal_when (start_checks bs) 0 k refl refl)
      (λ h. (h.2, ltb-true (length bs) 4 h.1), λ h. (tt, lt-ltb (length bs) 4 h.1, h.0)))

  -- "stated length differs from what was given"
  pub setup_2 : (k : ℕ) → Refused D W bs length_differs k ↔ (k ≡ 0) × (4 ≤ length bs) × (field_of 2 bs ≢ length bs)
  unfolding start_checks
  setup_2 k =
      let stated = equal_test (field_of 2 bs) (length bs) in
      Iff.trans (from_start D W bs length_differs k (omega arith) (omega arith))
      (Iff.trans (refusal_when (start_checks bs) 1 k refl refl) (
        λ h. (h.2, (below_test (length bs) 4).0 h.0.0, (wrong _ stated).0 h.1),
        λ h. (((below_test (length bs) 4).1 h.1, tt), (wrong _ stated).1 h.2, h.0),
      ))

  -- "setup version not 1"; "else the field's first byte"
  pub setup_3 : (k : ℕ) → Refused D W bs setup_version k ↔ (k ≡ 2) × (4 ≤ length bs) × (field_of 2 bs ≡ length bs) × (byte_of 2 bs ≢ 1)
  unfolding start_checks
  setup_3 k =
      let stated = equal_test (field_of 2 bs) (length bs) in
      let version = equal_test (byte_of 2 bs) 1 in
      Iff.trans (from_start D W bs setup_version k (omega arith) (omega arith))
      (Iff.trans (refusal_when (start_checks bs) 2 k refl refl) (
        λ h. (h.2, (below_test (length bs) 4).0 h.0.0, stated.0 h.0.1.0, (wrong _ version).0 h.1),
        λ h. (((below_test (length bs) 4).1 h.1, (stated.1 h.2, tt)), (wrong _ version).1 h.3, h.0),
      ))

  -- "0 or more than 8 servers"
  pub setup_4 : (k : ℕ) → Refused D W bs server_count k
      ↔ (k ≡ 3) × (4 ≤ length bs) × (field_of 2 bs ≡ length bs) × (byte_of 2 bs ≡ 1) × (¬ Within 1 entries (byte_of 3 bs))
  unfolding start_checks
  setup_4 k =
      let stated = equal_test (field_of 2 bs) (length bs) in
      let version = equal_test (byte_of 2 bs) 1 in
      let servers = range_test 1 entries (byte_of 3 bs) in
      Iff.trans (from_start D W bs server_count k (omega arith) (omega arith))
      (Iff.trans (refusal_when (start_checks bs) 3 k refl refl) (
        λ h. (h.2, (below_test (length bs) 4).0 h.0.0, stated.0 h.0.1.0, version.0 h.0.1.1.0, (wrong _ servers).0 h.1),
        λ h. (((below_test (length bs) 4).1 h.1, (stated.1 h.2, (version.1 h.3, tt))), (wrong _ servers).1 h.4, h.0),
      ))

  -- THE RECORDS

  -- "RECORDS IN FILE ORDER, EACH WHOLE (5) BEFORE ITS FIELDS IN FILE ORDER": a number of a record is that of the first check that holds in the first record
  -- that is not right
  pub setup_record : (n k : ℕ) → record_cut ≤ n → n ≤ release_times → Refused D W bs n k ↔ ((r : Rec) × Reached D W bs r × First (refused n k) (checks_of D W bs r))
  setup_record n k h m =
      Iff.trans (from_record D W bs n k (omega arith) (omega arith)) (
        λ p. (p.0, p.1, (given (refused n k) (checks_of D W bs p.0) (omega arith)).0 p.2),
        λ p. (p.0, p.1, (given (refused n k) (checks_of D W bs p.0) (omega arith)).1 p.2),
      )

  -- "a server or task record runs past the end"; "the record's start for 5"
  pub setup_5 : (k : ℕ) → Refused D W bs record_cut k
      ↔ (AtHead D W bs (λ j. (k ≡ j) × (length bs < j + head_size)) ⊎ AtTask D W bs (λ j. (k ≡ j) × (length bs < j + task_size)))
  unfolding head_checks task_checks
  setup_5 k =
      from_either D W bs record_cut k (omega arith) (omega arith)
      (λ j. let cut = cut_test bs j head_size (omega arith) in
      Iff.trans (refusal_when (head_checks D j (drop j bs)) 0 k refl refl) (λ h. (h.2, cut.0 h.1), λ h. (tt, cut.1 h.1, h.0)))
      (λ j. let cut = cut_test bs j task_size (omega arith) in
      Iff.trans (refusal_when (task_checks D W j (drop j bs)) 0 k refl refl) (λ h. (h.2, cut.0 h.1), λ h. (tt, cut.1 h.1, h.0)))

  head_whole : (j : ℕ) → ltb (length (drop j bs)) head_size ≡ false ↔ HeadWhole bs j
  head_whole j = whole_test bs j head_size (omega arith)

  -- "kind not 1 or 2"; "Setup code 6 now allows 3." (document 02, #101)
  pub setup_6 : (k : ℕ) → Refused D W bs server_kind k ↔ AtHead D W bs (λ j. (k ≡ j) × HeadWhole bs j × (¬ KindKnown bs j))
  unfolding head_checks task_checks
  setup_6 k =
      from_head D W bs server_kind k (omega arith) (omega arith) (λ j. refl) λ j.
      Iff.trans (refusal_when (head_checks D j (drop j bs)) 1 k refl refl) (
        λ h. (h.2, (head_whole j).0 h.0.0, (wrong _ (kind_test bs j)).0 h.1),
        λ h. (((head_whole j).1 h.1, tt), (wrong _ (kind_test bs j)).1 h.2, h.0),
      )

  -- "more than 8 tasks"
  pub setup_7 : (k : ℕ) → Refused D W bs task_count k ↔ AtHead D W bs (λ j. (k ≡ j + 1) × HeadWhole bs j × KindKnown bs j × (¬ TasksFew bs j))
  unfolding head_checks task_checks
  setup_7 k =
      from_head D W bs task_count k (omega arith) (omega arith) (λ j. refl) λ j.
      Iff.trans (refusal_when (head_checks D j (drop j bs)) 2 k refl refl) (
        λ h. (h.2, (head_whole j).0 h.0.0, (kind_test bs j).0 h.0.1.0, (wrong _ (tasks_test bs j)).0 h.1),
        λ h. (((head_whole j).1 h.1, ((kind_test bs j).1 h.2, tt)), (wrong _ (tasks_test bs j)).1 h.3, h.0),
      )

  -- "P out of range"
  pub setup_8 : (k : ℕ) → Refused D W bs period_range k ↔ AtHead D W bs (λ j. (k ≡ j + 2) × HeadWhole bs j × KindKnown bs j × TasksFew bs j × (¬ PFits bs j D))
  unfolding head_checks task_checks
  setup_8 k =
      from_head D W bs period_range k (omega arith) (omega arith) (λ j. refl) λ j.
      Iff.trans (refusal_when (head_checks D j (drop j bs)) 3 k refl refl) (
        λ h. (h.2, (head_whole j).0 h.0.0, (kind_test bs j).0 h.0.1.0, (tasks_test bs j).0 h.0.1.1.0, (wrong _ (P_test bs j D)).0 h.1),
        λ h. (((head_whole j).1 h.1, ((kind_test bs j).1 h.2, ((tasks_test bs j).1 h.3, tt))), (wrong _ (P_test bs j D)).1 h.4, h.0),
      )

  -- "C is 0 or above P"
  pub setup_9 : (k : ℕ) → Refused D W bs budget_range k
      ↔ AtHead D W bs (λ j. (k ≡ j + 6) × HeadWhole bs j × KindKnown bs j × TasksFew bs j × PFits bs j D × (¬ CFits bs j))
  unfolding head_checks task_checks
  setup_9 k =
      from_head D W bs budget_range k (omega arith) (omega arith) (λ j. refl) λ j.
      Iff.trans (refusal_when (head_checks D j (drop j bs)) 4 k refl refl) (
        λ h. (
          h.2,
          (head_whole j).0 h.0.0,
          (kind_test bs j).0 h.0.1.0,
          (tasks_test bs j).0 h.0.1.1.0,
          (P_test bs j D).0 h.0.1.1.1.0,
          (wrong _ (C_test bs j)).0 h.1,
        ),
        λ h. (((head_whole j).1 h.1, ((kind_test bs j).1 h.2, ((tasks_test bs j).1 h.3, ((P_test bs j D).1 h.4, tt)))), (wrong _ (C_test bs j)).1 h.5, h.0),
      )

  task_whole : (j : ℕ) → ltb (length (drop j bs)) task_size ≡ false ↔ TaskWhole bs j
  task_whole j = whole_test bs j task_size (omega arith)

  -- "release not 0 or 1"
  pub setup_10 : (k : ℕ) → Refused D W bs release_kind k ↔ AtTask D W bs (λ j. (k ≡ j) × TaskWhole bs j × (¬ ReleaseKnown bs j))
  unfolding head_checks task_checks
  setup_10 k =
      from_task D W bs release_kind k (omega arith) (omega arith) (λ j. refl) λ j.
      Iff.trans (refusal_when (task_checks D W j (drop j bs)) 1 k refl refl) (
        λ h. (h.2, (task_whole j).0 h.0.0, (wrong _ (release_test bs j)).0 h.1),
        λ h. (((task_whole j).1 h.1, tt), (wrong _ (release_test bs j)).1 h.2, h.0),
      )

  -- "E out of range"
  pub setup_11 : (k : ℕ) → Refused D W bs work_range k ↔ AtTask D W bs (λ j. (k ≡ j + 1) × TaskWhole bs j × ReleaseKnown bs j × (¬ EFits bs j W))
  unfolding head_checks task_checks
  setup_11 k =
      from_task D W bs work_range k (omega arith) (omega arith) (λ j. refl) λ j.
      Iff.trans (refusal_when (task_checks D W j (drop j bs)) 2 k refl refl) (
        λ h. (h.2, (task_whole j).0 h.0.0, (release_test bs j).0 h.0.1.0, (wrong _ (E_test bs j W)).0 h.1),
        λ h. (((task_whole j).1 h.1, ((release_test bs j).1 h.2, tt)), (wrong _ (E_test bs j W)).1 h.3, h.0),
      )

  -- "T or O wrong for the release": at T's first byte, or where T is right at O's
  pub setup_12 : (k : ℕ) → Refused D W bs release_times k
      ↔ AtTask D W bs (λ j. TaskWhole bs j × ReleaseKnown bs j × EFits bs j W
      × (((k ≡ j + 5) × (¬ TFits bs j D)) ⊎ ((k ≡ j + 9) × TFits bs j D × (¬ OFits bs j D))))
  unfolding head_checks task_checks
  setup_12 k =
      from_task D W bs release_times k (omega arith) (omega arith) (λ j. refl) λ j.
      let r = refused release_times k in
      let cs = task_checks D W j (drop j bs) in
      let times = first_behind r (omega arith) (take 3 cs) (drop 3 cs) (other release_times (take 3 cs) refl) in
      let either = first_append r (omega arith) (take 1 (drop 3 cs)) (drop 4 cs) in
      let T = refusal_when (take 1 (drop 3 cs)) 0 k refl refl in
      let O = refusal_when (drop 4 cs) 0 k refl refl in (
        λ e.
            let (p, f) = times.0 e in
            let known = (release_test bs j).0 p.1.0 in (
              (task_whole j).0 p.0,
              known,
              (E_test bs j W).0 p.1.1.0,
              ⊎_elim
                  (λ g. let h = T.0 g in inl (h.2, (wrong _ (T_test bs j D known)).0 h.1))
                  (λ g. let h = O.0 g.1 in inr (h.2, (T_test bs j D known).0 g.0.0, (wrong _ (O_test bs j D known)).0 h.1))
                  (either.0 f),
            ),
        λ w.
            let known = w.1 in
            times.1 (
              ((task_whole j).1 w.0, ((release_test bs j).1 known, ((E_test bs j W).1 w.2, tt))),
              either.1
                  (⊎_elim
                  (λ h. inl (T.1 (tt, (wrong _ (T_test bs j D known)).1 h.1, h.0)))
                  (λ h. inr (((T_test bs j D known).1 h.1, tt), O.1 (tt, (wrong _ (O_test bs j D known)).1 h.2, h.0)))
                  w.3),
            ),
      )

  -- BEHIND THE RECORDS

  -- "bytes after the last record"; "the first byte left for 13"
  pub setup_13 : (k : ℕ) → Refused D W bs bytes_left k ↔ StartRight bs × AllRight D W bs (records_of bs) × (k ≡ end_of bs) × (end_of bs < length bs)
  setup_13 k =
      let end = refusal_when (end_check bs ∷ []) 0 k refl refl in
      Iff.trans (from_end D W bs k) (
        λ h. let e = end.0 h.2 in (h.0, h.1, e.2, ltb-true (end_of bs) (length bs) e.1),
        λ h. (h.0, h.1, end.1 (tt, lt-ltb (end_of bs) (length bs) h.3, h.2)),
      )

  -- NOT REFUSED

  -- number 0 exactly when the start and every record are right and no byte is left
  pub setup_accepted : (read_of D W bs).refusal.number ≡ 0 ↔ StartRight bs × AllRight D W bs (records_of bs) × (end_of bs ≡ length bs)
  setup_accepted = Iff.trans (read_passed D W bs) (from_none D W bs)

  -- and then the place is 0 too
  pub setup_none : (read_of D W bs).refusal.number ≡ 0 → (read_of D W bs).refusal ≡ none
  setup_none e = read_refusal D W bs ∙ passed_none (setup_checks D W bs) ((read_passed D W bs).0 e)

  -- and there is no number but these
  pub setup_numbers : (read_of D W bs).refusal.number ≤ bytes_left
  setup_numbers = rw (read_refusal D W bs) (ranged_first 1 13 (setup_checks D W bs) (setup_ranged D W bs))

-- THE WRITER, for a buffer of n bytes

module _ (D W : ℕ) (t : Table) (n : ℕ) where
  write_number : (write_answer D W t n).refusal.number ≡ (first_of (write_checks D W t n)).number
  write_number = written_number (write_refusal D W t n) (bytes_of t)

  -- "queue, state or table handed in isn't sound"
  pub write_31 : (write_answer D W t n).refusal.number ≡ unsound ↔ (tableb D W t ≡ false)
  write_31 =
      number_when _ (write_checks D W t n) write_number 0 refl refl
      (λ h. not-true _ h.1)
      (λ h. (tt, ap not h))

  -- "buffer too short for what is written"
  pub write_32 : (write_answer D W t n).refusal.number ≡ buffer_short ↔ (tableb D W t ≡ true) × (n < length (bytes_of t))
  write_32 =
      number_when _ (write_checks D W t n) write_number 1 refl refl
      (λ h. (not-false _ h.0.0, ltb-true n (length (bytes_of t)) h.1))
      (λ h. ((ap not h.0, tt), lt-ltb n (length (bytes_of t)) h.1))

  -- and no refusal exactly when neither test holds
  pub write_accepted : (write_answer D W t n).refusal.number ≡ 0 ↔ (tableb D W t ≡ true) × (length (bytes_of t) ≤ n)
  write_accepted =
      none_when _ (write_checks D W t n) write_number refl
      (λ h. (not-false _ h.0, ltb-false n (length (bytes_of t)) h.1.0))
      (λ h. (ap not h.0, (le-ltb n (length (bytes_of t)) h.1, tt)))

  -- "the place (0 where none is named below)"
  pub write_place : (write_answer D W t n).refusal.place ≡ 0
  write_place = written_place (write_refusal D W t n) (bytes_of t) (no_place (write_checks D W t n) refl)
