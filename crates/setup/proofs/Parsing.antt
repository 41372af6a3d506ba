-- Reading records one behind the other, over any kind of record: of a server's tasks and of a setup's servers. Assumes nothing.
use mathlib.Core.Path.{◌≡◌, refl, sym, ap, ◌∙◌}
use mathlib.Core.List.{List, [], ◌∷◌, ◌++◌}
use mathlib.Core.Logic.{◌≢◌}
use Prim.Native.Nat.{ℕ, zero, suc, ◌+◌, ◌*◌, ◌-◌, ◌≤◌, ◌<◌}
use native.Mathlib.Nat.{add_assoc}
use native.Mathlib.Numerals.{add-one}
use native.Mathlib.Omega.{arith}
use lib.Dec.{leb, ltb, eqb}
use lib.ListN.{length, drop, set, length-drop}
use lib.Seq.{drop-drop}
use borrow.Author.Tests.{eq-eqb, ne_eqb, eqb-true, lt-ltb, le-ltb, ltb-false, leb-true, not-false}
use Rattle.std.specs.Prelude.{Result, Ok, Err}
use Rattle.std.specs.Result.{IsErrAnd}
use Rattle.small.specs.Small.{pick, padded}
use Rattle.small.proofs.Tests.{both_right}
use Rattle.small.proofs.Padded.{padded_push}
use Rattle.refusal.specs.Reason.{number_of, fault_of, refusal_at, fault_in}
use Rattle.refusal.specs.Refusal.{refused, none, Check, first_of}
use Rattle.refusal.specs.declared.Fault.{Fault}
use Rattle.refusal.specs.declared.Reason.{Reason}
use Rattle.refusal.specs.declared.Reason.TheVariants.{BytesLeft}
use Rattle.refusal.specs.declared.Refusal.{Refusal}
use Rattle.refusal.proofs.Exactly.{Numbered, numbered_append, first_append, neither_refuses, passes}
use Rattle.refusal.proofs.Reasons.{refusal_in_one}
use Rattle.refusal.specs.Numbers.{bytes_left}
use Rattle.field.specs.Field.{byte_of, field_of}
use Rattle.table.specs.Limits.{entries}
use Rattle.table.specs.Table.{zero_task, zero_server, zero_table}
use Rattle.table.specs.Sound.{rangeb}
use Rattle.table.specs.declared.Task.{Task}
use Rattle.table.specs.declared.Server.{Server}
use Rattle.table.specs.declared.Table.{Table}
use Rattle.setup.specs.Read.{task_size, task_checks, task_of, tasks_checks, tasks_of, head_size, head_checks, server_checks, server_of, server_size, servers_checks, servers_of, servers_size, start_checks, end_of, setup_checks, read_with, reading_by, read_of, table_of}
use Rattle.setup.specs.Moves.{head_of, all_checks, all_given, all_size, task_numbered, head_numbered, server_numbered, start_numbered}

-- a reason's number is not that of none
pub some_number : (r : Reason) → number_of r ≢ 0
some_number r e = absurd (let h = refusal_in_one (Ok tt) (Err r) (ap (λ (n : ℕ). refused n 0) (sym e)) in cc)

-- an outcome whose error is known is the refusal of it
pub refused_by : {A : Type 0} (r : Result A Fault) (f : Fault) → IsErrAnd r (λ e. e ≡ f) → fault_in r ≡ refusal_at f
refused_by (Ok x) f h = absurd h
refused_by (Err e) f h = ap refusal_at h

pub reading_of : (r : Result Table Fault) (f : Fault) → IsErrAnd r (λ e. e ≡ f) → reading_by r ≡ read_with (refusal_at f) zero_table
reading_of (Ok x) f h = absurd h
reading_of (Err e) f h = ap (λ (f : Fault). read_with (refusal_at f) zero_table) h

-- SO MANY RECORDS, one behind the other, of a kind whose every refusal has a number

module _ (checks : ℕ → List ℕ → List Check) (span : List ℕ → ℕ) (each : (k : ℕ) (bs : List ℕ) → Numbered (checks k bs)) where
  pub all_numbered : (n k : ℕ) (bs : List ℕ) → Numbered (all_checks checks span n k bs)
  all_numbered zero k bs = tt
  all_numbered (suc n) k bs = numbered_append (checks k bs) _ (each k bs) (all_numbered n (k + span bs) (drop (span bs) bs))

  -- records of which none is refused are whole
  module _ (whole : (k : ℕ) (bs : List ℕ) → (first_of (checks k bs)).number ≡ 0 → span bs ≤ length bs) where
    pub all_whole : (n k : ℕ) (bs : List ℕ) → (first_of (all_checks checks span n k bs)).number ≡ 0 → all_size span n bs ≤ length bs
    all_whole zero k bs e = omega arith
    all_whole (suc n) k bs e =
        let l = span bs in
        let h = neither_refuses (checks k bs) (all_checks checks span n (k + l) (drop l bs)) (each k bs) e in
        let one : l ≤ length bs = whole k bs h.0 in
        let rest : all_size span n (drop l bs) ≤ length bs - l = rw (← length-drop l bs) (all_whole n (k + l) (drop l bs) h.1) in
        omega arith

module _ {A : Type 0} (checks : ℕ → List ℕ → List Check) (gives : List ℕ → A) (span : List ℕ → ℕ) where
  length_given : (n : ℕ) (bs : List ℕ) → length (all_given gives span n bs) ≡ n
  length_given zero bs = refl
  length_given (suc n) bs = ap suc (length_given n _)

  -- one record more
  last_size : (n : ℕ) (bs : List ℕ) → all_size span (suc n) bs ≡ all_size span n bs + span (drop (all_size span n bs) bs)
  last_size zero bs = omega arith
  last_size (suc n) bs = rw (last_size n (drop (span bs) bs), drop-drop) (sym (add_assoc (span bs) _ _))

  last_given : (n : ℕ) (bs : List ℕ) → all_given gives span (suc n) bs ≡ all_given gives span n bs ++ (gives (drop (all_size span n bs) bs) ∷ [])
  last_given zero bs = refl
  last_given (suc n) bs = rw (last_given n (drop (span bs) bs), drop-drop)

  -- A LOOP that reads n records from the bytes bs at place k on into an array, where i of them are read and the bytes behind them are left
  pub record SoFar (z : A) (most k : ℕ) (bs : List ℕ) (n : ℕ) (xs : List A) (at : ℕ) (rest : List ℕ) (i : ℕ) : Type 0 where
    pub within : i ≤ n
    pub place : at ≡ k + all_size span i bs
    pub behind : rest ≡ drop (all_size span i bs) bs
    pub read : xs ≡ padded z most (all_given gives span i bs)
    pub left : first_of (all_checks checks span n k bs) ≡ first_of (all_checks checks span (n - i) at rest)

module _ {A : Type 0} {checks : ℕ → List ℕ → List Check} {gives : List ℕ → A} {span : List ℕ → ℕ} {z : A} {most k : ℕ} {bs : List ℕ} {n : ℕ} {xs : List A}
    {at : ℕ} {rest : List ℕ} {i : ℕ} (s : SoFar checks gives span z most k bs n xs at rest i) (numbered : (k : ℕ) (bs : List ℕ) → Numbered (checks k bs)) where
  -- what is left to check: the record here, and those behind it
  left_is : i < n → first_of (all_checks checks span n k bs)
      ≡ pick (eqb (first_of (checks at rest)).number 0) (first_of (all_checks checks span (n - (i + 1)) (at + span rest) (drop (span rest) rest))) (first_of (checks at rest))
  left_is h =
      let e : n - i ≡ suc (n - (i + 1)) = omega arith in
      rw (s.left, e, first_append (checks at rest) _ (numbered at rest))

  -- it is read
  pub so_far_more : n ≤ most → i < n → none ≡ first_of (checks at rest) → SoFar checks gives span z most k bs n (set xs i (gives rest)) (at + span rest) (drop (span rest) rest) (i + 1)
  so_far_more m h o =
      let ys = all_given gives span i bs in
      let x = gives rest in
      let last : all_given gives span (i + 1) bs ≡ ys ++ (x ∷ []) = rw (add-one, s.behind) (last_given checks gives span i bs) in
      record {
        within = omega arith;
        place = rw (add-one, last_size checks gives span i bs, ← s.behind, s.place) (add_assoc k _ _);
        behind = rw (add-one, last_size checks gives span i bs, ← s.behind, ← drop-drop, ← s.behind);
        read =
            ap (λ (l : List A). set l i x) s.read
            ∙ ap (λ (j : ℕ). set (padded z most ys) j x) (sym (length_given checks gives span i bs))
            ∙ padded_push z most ys x (rw (length_given checks gives span i bs) (omega arith))
            ∙ ap (padded z most) (sym last);
        left = left_is h ∙ rw (← o);
      }

  -- it is refused
  pub so_far_refused : i < n → (f : Fault) → refusal_at f ≡ first_of (checks at rest) → first_of (all_checks checks span n k bs) ≡ refusal_at f
  so_far_refused h f e = left_is h ∙ rw (← e, ne_eqb _ 0 (some_number f.reason))

-- THE RECORDS OF A SETUP, for any longest distance D and any most work W

module _ (D W : ℕ) where
  pub tasks_checks_are : (n k : ℕ) (bs : List ℕ) → all_checks (task_checks D W) (λ bs. task_size) n k bs ≡ tasks_checks D W n k bs
  tasks_checks_are zero k bs = refl
  tasks_checks_are (suc n) k bs = ap (λ (l : List Check). task_checks D W k bs ++ l) (tasks_checks_are n (k + task_size) (drop task_size bs))

  pub servers_checks_are : (n k : ℕ) (bs : List ℕ) → all_checks (server_checks D W) server_size n k bs ≡ servers_checks D W n k bs
  servers_checks_are zero k bs = refl
  servers_checks_are (suc n) k bs = ap (λ (l : List Check). server_checks D W k bs ++ l) (servers_checks_are n (k + server_size bs) (drop (server_size bs) bs))

pub tasks_of_are : (n : ℕ) (bs : List ℕ) → all_given task_of (λ bs. task_size) n bs ≡ tasks_of n bs
tasks_of_are zero bs = refl
tasks_of_are (suc n) bs = ap (λ (l : List Task). task_of bs ∷ l) (tasks_of_are n (drop task_size bs))

pub servers_of_are : (n : ℕ) (bs : List ℕ) → all_given server_of server_size n bs ≡ servers_of n bs
servers_of_are zero bs = refl
servers_of_are (suc n) bs = ap (λ (l : List Server). server_of bs ∷ l) (servers_of_are n (drop (server_size bs) bs))

pub tasks_size_is : (n : ℕ) (bs : List ℕ) → all_size (λ bs. task_size) n bs ≡ task_size * n
tasks_size_is zero bs = refl
tasks_size_is (suc n) bs = omega (arith, tasks_size_is n (drop task_size bs))

pub servers_size_is : (n : ℕ) (bs : List ℕ) → all_size server_size n bs ≡ servers_size n bs
servers_size_is zero bs = refl
servers_size_is (suc n) bs = ap (λ (m : ℕ). server_size bs + m) (servers_size_is n (drop (server_size bs) bs))

pub servers_numbered : (D W n k : ℕ) (bs : List ℕ) → Numbered (servers_checks D W n k bs)
servers_numbered D W zero k bs = tt
servers_numbered D W (suc n) k bs =
    numbered_append (server_checks D W k bs) _ (server_numbered D W k bs) (servers_numbered D W n (k + server_size bs) (drop (server_size bs) bs))

-- a server's checks are those of its head, and then of its tasks
pub server_first : (D W k : ℕ) (bs : List ℕ) → let h = first_of (head_checks D k bs) in
    first_of (server_checks D W k bs) ≡ pick (eqb h.number 0) (first_of (tasks_checks D W (byte_of 1 bs) (k + head_size) (drop head_size bs))) h
unfolding server_checks
server_first D W k bs = first_append (head_checks D k bs) _ (head_numbered D k bs)

-- a setup's are those of its start, then of its servers, and then that no byte is left
pub setup_first : (D W : ℕ) (bs : List ℕ) → let f = first_of (start_checks bs) in
    let g = first_of (servers_checks D W (byte_of 3 bs) 4 (drop 4 bs)) in
    first_of (setup_checks D W bs) ≡ pick (eqb f.number 0) (pick (eqb g.number 0) (pick (ltb (end_of bs) (length bs)) (refused bytes_left (end_of bs)) none) g) f
unfolding setup_checks
setup_first D W bs =
    rw (first_append (start_checks bs) _ (start_numbered bs), first_append (servers_checks D W (byte_of 3 bs) 4 (drop 4 bs)) _ (servers_numbered D W (byte_of 3 bs) 4 (drop 4 bs)))

-- A SERVER is refused by its head, or by its tasks, or it is read with them
module _ (D W k : ℕ) (bs : List ℕ) where
  pub server_by_head : (f : Fault) → refusal_at f ≡ first_of (head_checks D k bs) → refusal_at f ≡ first_of (server_checks D W k bs)
  server_by_head f e = rw (server_first D W k bs, ← e, ne_eqb _ 0 (some_number f.reason))

  -- behind the head, n tasks
  module _ (n : ℕ) (rest : List ℕ) (m : n ≡ byte_of 1 bs) (r : rest ≡ drop head_size bs) where
    pub server_by_tasks : (at : ℕ) → none ≡ first_of (head_checks D k bs) → at ≡ k + head_size
        → first_of (all_checks (task_checks D W) (λ bs. task_size) n at rest) ≡ first_of (server_checks D W k bs)
    server_by_tasks at h a = rw (server_first D W k bs, ← h, m, r, a, tasks_checks_are)

    pub server_is : (s : Server) (ts : List Task) → s ≡ head_of bs → ts ≡ padded zero_task entries (all_given task_of (λ bs. task_size) n rest) → record s { tasks = ts } ≡ server_of bs
    unfolding server_of
    server_is s ts h t = rw (h, t, m, r, tasks_of_are)

    pub server_behind : (at next : ℕ) (left : List ℕ) → at ≡ k + head_size → next ≡ at + all_size (λ bs. task_size) n rest → left ≡ drop (all_size (λ bs. task_size) n rest) rest
        → (next ≡ k + server_size bs) × (left ≡ drop (server_size bs) bs)
    server_behind at next left a p q = (omega (arith, tasks_size_is n rest), rw (q, tasks_size_is, r, drop-drop, m))

-- A SETUP is refused by its start, or by its servers, or by bytes behind them, or it is read with them
module _ (D W : ℕ) (bs : List ℕ) where
  refused_read : (f : Fault) → refusal_at f ≡ first_of (setup_checks D W bs) → read_with (refusal_at f) zero_table ≡ read_of D W bs
  unfolding read_of
  refused_read f e = rw (← e, ne_eqb _ 0 (some_number f.reason))

  pub read_by_start : (f : Fault) → refusal_at f ≡ first_of (start_checks bs) → read_with (refusal_at f) zero_table ≡ read_of D W bs
  read_by_start f e = refused_read f (rw (setup_first D W bs, ← e, ne_eqb _ 0 (some_number f.reason)))

  -- behind the start, n servers
  module _ (n : ℕ) (rest : List ℕ) (m : n ≡ byte_of 3 bs) (r : rest ≡ drop 4 bs) (h : none ≡ first_of (start_checks bs)) where
    servers_are : first_of (all_checks (server_checks D W) server_size n 4 rest) ≡ first_of (servers_checks D W (byte_of 3 bs) 4 (drop 4 bs))
    servers_are = rw (m, r, servers_checks_are)

    pub read_by_servers : (f : Fault) → refusal_at f ≡ first_of (all_checks (server_checks D W) server_size n 4 rest) → read_with (refusal_at f) zero_table ≡ read_of D W bs
    read_by_servers f e = refused_read f (rw (setup_first D W bs, ← h, ← servers_are, ← e, ne_eqb _ 0 (some_number f.reason)))

    -- and behind them, what is left
    module _ (o : none ≡ first_of (all_checks (server_checks D W) server_size n 4 rest)) (at : ℕ) (left : List ℕ) (a : at ≡ 4 + all_size server_size n rest)
        (b : left ≡ drop (all_size server_size n rest) rest) where
      here : at ≡ end_of bs
      here = rw (a, servers_size_is, m, r)

      some_left : length left ≡ length bs - at
      some_left =
          let l : length rest ≡ length bs - 4 = rw r (length-drop 4 bs) in
          rw (b, length-drop) (omega arith)

      pub read_by_end : 0 < length left → read_with (refusal_at (fault_of BytesLeft at)) zero_table ≡ read_of D W bs
      read_by_end l =
          refused_read (fault_of BytesLeft at) (rw (setup_first D W bs, ← h, ← servers_are, ← o, ← here, lt-ltb at (length bs) (omega (arith, some_left))))

      pub read_is : length left ≡ 0 → (ss : List Server) → ss ≡ padded zero_server entries (all_given server_of server_size n rest)
          → read_with none record { servers = ss; count = n } ≡ read_of D W bs
      unfolding read_of table_of
      read_is l ss t =
          let e : first_of (setup_checks D W bs) ≡ none = rw (setup_first D W bs, ← h, ← servers_are, ← o, ← here, le-ltb at (length bs) (omega (arith, some_left))) in
          rw (e, t, m, r, servers_of_are)

-- of all the bytes: where neither its start nor its servers are refused, bytes that stand behind them are
pub bytes_left_lem : (D W : ℕ) (bs : List ℕ) → (first_of (start_checks bs)).number ≡ 0 → (first_of (servers_checks D W (byte_of 3 bs) 4 (drop 4 bs))).number ≡ 0
    → (next : ℕ) → next ≡ end_of bs → next < length bs → read_of D W bs ≡ read_with (refused bytes_left next) zero_table
unfolding read_of
bytes_left_lem D W bs h o next e l = rw (setup_first D W bs, eq-eqb _ 0 h, eq-eqb _ 0 o, ← e, lt-ltb next (length bs) l)

-- WHAT IS NOT REFUSED IS WHOLE

pub task_whole : (D W k : ℕ) (bs : List ℕ) → (first_of (task_checks D W k bs)).number ≡ 0 → task_size ≤ length bs
unfolding task_checks
task_whole D W k bs e = ltb-false (length bs) task_size ((passes (task_checks D W k bs) (task_numbered D W k bs)).0 e).0

-- a server's head, which has at most as many tasks as there are entries
pub head_whole : (D k : ℕ) (bs : List ℕ) → (first_of (head_checks D k bs)).number ≡ 0 → (head_size ≤ length bs) × (byte_of 1 bs ≤ entries)
unfolding head_checks
head_whole D k bs e =
    let p = (passes (head_checks D k bs) (head_numbered D k bs)).0 e in
    (ltb-false (length bs) head_size p.0, ltb-false entries (byte_of 1 bs) p.1.1.0)

-- a server with its tasks
pub server_whole : (D W k : ℕ) (bs : List ℕ) → (first_of (server_checks D W k bs)).number ≡ 0 → server_size bs ≤ length bs
unfolding server_checks
server_whole D W k bs e =
    let n = byte_of 1 bs in
    let rest = drop head_size bs in
    let h = neither_refuses (head_checks D k bs) (tasks_checks D W n (k + head_size) rest) (head_numbered D k bs) e in
    let all : (first_of (all_checks (task_checks D W) (λ bs. task_size) n (k + head_size) rest)).number ≡ 0 = rw (tasks_checks_are D W n (k + head_size) rest) h.1 in
    let tasks = all_whole (task_checks D W) (λ bs. task_size) (task_numbered D W) (task_whole D W) n (k + head_size) rest all in
    omega (arith, (head_whole D k bs h.0).0, tasks, tasks_size_is n rest, length-drop head_size bs)

-- a start, which states the length and has at most as many servers as there are entries
pub start_whole : (bs : List ℕ) → (first_of (start_checks bs)).number ≡ 0 → (4 ≤ length bs) × (field_of 2 bs ≡ length bs) × (byte_of 3 bs ≤ entries)
unfolding start_checks
start_whole bs e =
    let p = (passes (start_checks bs) (start_numbered bs)).0 e in
    let n = not-false (rangeb 1 entries (byte_of 3 bs)) p.1.1.1.0 in
    (ltb-false (length bs) 4 p.0, eqb-true (field_of 2 bs) (length bs) (not-false _ p.1.0), leb-true (byte_of 3 bs) entries (both_right (leb 1 (byte_of 3 bs)) _ n))

-- as the code asks it
pub head_few : (D k : ℕ) (bs : List ℕ) → first_of (head_checks D k bs) ≡ none → byte_of 1 bs ≤ entries
head_few D k bs e = (head_whole D k bs (ap (λ (r : Refusal). r.number) e)).1

pub start_few : (bs : List ℕ) → first_of (start_checks bs) ≡ none → byte_of 3 bs ≤ entries
start_few bs e = (start_whole bs (ap (λ (r : Refusal). r.number) e)).2
