-- The reader's checks are those of the records in file order, and each check says its words. Assumes nothing.
use mathlib.Core.Path.{◌≡◌, refl, ap, ◌∙◌}
use mathlib.Core.Bool.{Bool, true, false, not}
use mathlib.Core.List.{List, [], ◌∷◌, ◌++◌, append_assoc}
use mathlib.Core.Logic.{◌↔◌, ◌⊎◌, inl, inr, ⊎_elim}
use Prim.Native.Nat.{ℕ, zero, suc, ◌+◌, ◌*◌, ◌≤◌, ◌<◌}
use native.Mathlib.Nat.{add-zero}
use native.Mathlib.Omega.{arith}
use lib.Dec.{leb, ltb, eqb}
use lib.ListN.{length, drop, length-drop}
use lib.Seq.{drop-drop, get_or-drop}
use borrow.Author.Tests.{eq-eqb, eqb-true, eqb-false, le-leb, leb-true, le-ltb, lt-ltb, ltb-true, ltb-false, not-false}
use Rattle.small.specs.Small.{pick}
use Rattle.small.proofs.Tests.{contrary}
use Rattle.refusal.specs.Refusal.{Check, Passed}
use Rattle.refusal.proofs.Joined.{passed_join, passed_parts}
use Rattle.field.specs.Field.{byte_of, field_of}
use Rattle.table.specs.Limits.{entries}
use Rattle.table.specs.Meaning.{Within}
use Rattle.table.specs.Sound.{rangeb, kindb}
use Rattle.table.proofs.SoundLaws.{range_within, kind_known}
use Rattle.setup.specs.Read.{task_size, period_wrong, offset_wrong, task_checks, tasks_checks, head_size, head_checks, server_checks, servers_checks, start_checks}
use Rattle.setup.specs.Records.{Rec, task_records, server_records, records_of, checks_of, four_at}
use Rattle.setup.specs.Records.{StartRight, RecordRight, AllRight}
use Rattle.setup.specs.Records.{KindKnown, TasksFew, PFits, CFits, ReleaseKnown, EFits, TFits, OFits}
use Rattle.setup.specs.Records.Rec.{head, task}

-- the checks of records, one behind the other
abbrev pub all_checks : ℕ → ℕ → List ℕ → List Rec → List Check
all_checks D W bs [] = []
all_checks D W bs (r ∷ rs) = checks_of D W bs r ++ all_checks D W bs rs

module _ (D W : ℕ) (bs : List ℕ) where
  all_append : (xs ys : List Rec) → all_checks D W bs (xs ++ ys) ≡ all_checks D W bs xs ++ all_checks D W bs ys
  all_append [] ys = refl
  all_append (x ∷ xs) ys = rw (all_append xs ys, append_assoc)

  tasks_checks_lem : (n k : ℕ) → tasks_checks D W n k (drop k bs) ≡ all_checks D W bs (task_records n k)
  tasks_checks_lem zero k = refl
  tasks_checks_lem (suc n) k = rw (drop-drop task_size k bs, tasks_checks_lem n (k + task_size))

  servers_checks_lem : (n k : ℕ) → servers_checks D W n k (drop k bs) ≡ all_checks D W bs (server_records n k bs)
  unfolding server_checks
  servers_checks_lem zero k = refl
  servers_checks_lem (suc n) k =
      let m : byte_of 1 (drop k bs) ≡ byte_of (k + 1) bs = get_or-drop k bs 1 0 in
      let next = k + (head_size + task_size * byte_of (k + 1) bs) in
      rw (
        m,
        drop-drop,
        drop-drop,
        tasks_checks_lem (byte_of (k + 1) bs) (k + head_size),
        servers_checks_lem n next,
        all_append (task_records (byte_of (k + 1) bs) (k + head_size)) (server_records n next bs),
        append_assoc,
      )

  -- "records in file order"
  pub records_checks : servers_checks D W (byte_of 3 bs) 4 (drop 4 bs) ≡ all_checks D W bs (records_of bs)
  records_checks = servers_checks_lem (byte_of 3 bs) 4

-- A TEST AND ITS WORDS

-- what a check does not find wrong is right: then it finds wrong what is not
pub wrong : (b : Bool) {A : Type 0} → b ≡ false ↔ A → b ≡ true ↔ (¬ A)
wrong true w = (λ e a. contrary refl (w.1 a), λ n. refl)
wrong false w = (λ e. contrary e refl, λ n. absurd (n (w.0 refl)))

pub equal_test : (a b : ℕ) → not (eqb a b) ≡ false ↔ (a ≡ b)
equal_test a b = (λ e. eqb-true a b (not-false _ e), λ e. ap not (eq-eqb a b e))

pub below_test : (a b : ℕ) → ltb a b ≡ false ↔ (b ≤ a)
below_test a b = (ltb-false a b, le-ltb a b)

pub range_test : (least most x : ℕ) → not (rangeb least most x) ≡ false ↔ Within least most x
range_test least most x = (λ e. (range_within least most x).0 (not-false _ e), λ w. ap not ((range_within least most x).1 w))

pub above_test : (a b : ℕ) → not (leb a b) ≡ false ↔ (a ≤ b)
above_test a b = (λ e. leb-true a b (not-false _ e), λ h. ap not (le-leb a b h))

-- one test on arrival, another where periodic
by_release : (n : ℕ) (x y : Bool) {A B : Type 0} → (n ≡ 0) ⊎ (n ≡ 1) → not x ≡ false ↔ A → not y ≡ false ↔ B
    → not (pick (eqb n 0) x y) ≡ false ↔ (((n ≡ 0) × A) ⊎ ((n ≡ 1) × B))
by_release n x y (inl e) a b = rw e (λ h. inl (refl, a.0 h), ⊎_elim (λ h. a.1 h.1) (λ h. absurd (omega (arith, h.0))))
by_release n x y (inr e) a b = rw e (λ h. inr (refl, b.0 h), ⊎_elim (λ h. absurd (omega (arith, h.0))) (λ h. b.1 h.1))

-- of a record at place k, by the bytes from there on
module _ (bs : List ℕ) (k : ℕ) where
  first_byte : byte_of 0 (drop k bs) ≡ byte_of k bs
  first_byte = get_or-drop k bs 0 0 ∙ rw add-zero

  pub whole_test : (size : ℕ) → 0 < size → ltb (length (drop k bs)) size ≡ false ↔ (k + size ≤ length bs)
  whole_test size z = (
    λ e. let h : size ≤ length (drop k bs) = ltb-false _ size e in omega (arith, length-drop k bs),
    λ h. le-ltb (length (drop k bs)) size (omega (arith, length-drop k bs)),
  )

  pub cut_test : (size : ℕ) → 0 < size → ltb (length (drop k bs)) size ≡ true ↔ (length bs < k + size)
  cut_test size z = (
    λ e. let h : length (drop k bs) < size = ltb-true _ size e in omega (arith, length-drop k bs),
    λ h. lt-ltb (length (drop k bs)) size (omega (arith, length-drop k bs)),
  )

  pub kind_test : not (kindb (byte_of 0 (drop k bs))) ≡ false ↔ KindKnown bs k
  kind_test = rw first_byte (λ e. (kind_known (byte_of k bs)).0 (not-false _ e), λ w. ap not ((kind_known (byte_of k bs)).1 w))

  pub tasks_test : ltb entries (byte_of 1 (drop k bs)) ≡ false ↔ TasksFew bs k
  tasks_test = rw (get_or-drop k bs 1 0) (below_test entries (byte_of (k + 1) bs))

  pub P_test : (D : ℕ) → not (rangeb 1 D (field_of 4 (drop 2 (drop k bs)))) ≡ false ↔ PFits bs k D
  P_test D = rw (drop-drop 2 k bs) (range_test 1 D (four_at (k + 2) bs))

  pub C_test : not (rangeb 1 (field_of 4 (drop 2 (drop k bs))) (field_of 4 (drop 6 (drop k bs)))) ≡ false ↔ CFits bs k
  C_test = rw (drop-drop 2 k bs, drop-drop 6 k bs) (range_test 1 (four_at (k + 2) bs) (four_at (k + 6) bs))

  pub release_test : ltb 1 (byte_of 0 (drop k bs)) ≡ false ↔ ReleaseKnown bs k
  release_test = rw first_byte (λ e. known (byte_of k bs) (eqb (byte_of k bs) 0) refl (ltb-false 1 _ e), ⊎_elim (λ e. rw e) (λ e. rw e))
    where
      known : (n : ℕ) (b : Bool) → eqb n 0 ≡ b → n ≤ 1 → (n ≡ 0) ⊎ (n ≡ 1)
      known n true e h = inl (eqb-true n 0 e)
      known n false e h = let m = eqb-false n 0 e in inr (omega arith)

  pub E_test : (W : ℕ) → not (rangeb 1 W (field_of 4 (drop 1 (drop k bs)))) ≡ false ↔ EFits bs k W
  E_test W = rw (drop-drop 1 k bs) (range_test 1 W (four_at (k + 1) bs))

  pub T_test : (D : ℕ) → ReleaseKnown bs k → period_wrong D (byte_of 0 (drop k bs)) (field_of 4 (drop 5 (drop k bs))) ≡ false ↔ TFits bs k D
  T_test D known = let T = four_at (k + 5) bs in rw (first_byte, drop-drop 5 k bs) (by_release (byte_of k bs) (eqb T 0) (rangeb 1 D T) known (equal_test T 0) (range_test 1 D T))

  pub O_test : (D : ℕ) → ReleaseKnown bs k → offset_wrong D (byte_of 0 (drop k bs)) (field_of 4 (drop 9 (drop k bs))) ≡ false ↔ OFits bs k D
  O_test D known = let O = four_at (k + 9) bs in rw (first_byte, drop-drop 9 k bs) (by_release (byte_of k bs) (eqb O 0) (leb O D) known (equal_test O 0) (above_test O D))

-- A START AND A RECORD IN WORDS

pub start_right : (bs : List ℕ) → Passed (start_checks bs) ↔ StartRight bs
unfolding start_checks
start_right bs = (
  λ p. record {
    whole = (below_test (length bs) 4).0 p.0;
    stated = (equal_test (field_of 2 bs) (length bs)).0 p.1.0;
    version = (equal_test (byte_of 2 bs) 1).0 p.1.1.0;
    servers = (range_test 1 entries (byte_of 3 bs)).0 p.1.1.1.0;
  },
  λ w. (
    (below_test (length bs) 4).1 w.whole,
    ((equal_test (field_of 2 bs) (length bs)).1 w.stated, ((equal_test (byte_of 2 bs) 1).1 w.version, ((range_test 1 entries (byte_of 3 bs)).1 w.servers, tt))),
  ),
)

pub record_right : (D W : ℕ) (bs : List ℕ) (r : Rec) → Passed (checks_of D W bs r) ↔ RecordRight D W bs r
unfolding head_checks task_checks
record_right D W bs (head k) = (
  λ p. (
    (whole_test bs k head_size (omega arith)).0 p.0,
    (kind_test bs k).0 p.1.0,
    (tasks_test bs k).0 p.1.1.0,
    (P_test bs k D).0 p.1.1.1.0,
    (C_test bs k).0 p.1.1.1.1.0,
  ),
  λ w. (
    (whole_test bs k head_size (omega arith)).1 w.0,
    ((kind_test bs k).1 w.1, ((tasks_test bs k).1 w.2, ((P_test bs k D).1 w.3, ((C_test bs k).1 w.4, tt)))),
  ),
)
record_right D W bs (task k) = (
  λ p. let known = (release_test bs k).0 p.1.0 in (
    (whole_test bs k task_size (omega arith)).0 p.0,
    known,
    (E_test bs k W).0 p.1.1.0,
    (T_test bs k D known).0 p.1.1.1.0,
    (O_test bs k D known).0 p.1.1.1.1.0,
  ),
  λ w. (
    (whole_test bs k task_size (omega arith)).1 w.0,
    ((release_test bs k).1 w.1, ((E_test bs k W).1 w.2, ((T_test bs k D w.1).1 w.3, ((O_test bs k D w.1).1 w.4, tt)))),
  ),
)

pub all_right : (D W : ℕ) (bs : List ℕ) (rs : List Rec) → Passed (all_checks D W bs rs) ↔ AllRight D W bs rs
all_right D W bs [] = (λ p. tt, λ w. tt)
all_right D W bs (r ∷ rs) =
    let one = record_right D W bs r in
    let rest = all_right D W bs rs in (
      λ p. let (a, b) = passed_parts (checks_of D W bs r) (all_checks D W bs rs) p in (one.0 a, rest.0 b),
      λ w. passed_join (checks_of D W bs r) (all_checks D W bs rs) (one.1 w.0) (rest.1 w.1),
    )
