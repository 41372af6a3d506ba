-- A record written and read back, and a record read and written again: one task, a server, and rows of both. bs are the bytes from the record's start
-- on. D is the longest period and offset, W the most work; both fit into a field of four bytes. Assumes nothing.
use mathlib.Core.Path.{◌≡◌, refl, sym, ap, subst, ◌∙◌}
use mathlib.Core.Bool.{Bool, true, false, not}
use mathlib.Core.List.{List, [], ◌∷◌, ◌++◌, append_assoc}
use mathlib.Core.Logic.{inl, inr}
use Prim.Native.Nat.{ℕ, zero, suc, ◌+◌, ◌*◌, ◌^◌, ◌≤◌, ◌<◌}
use native.Mathlib.Omega.{arith}
use lib.Dec.{leb, ltb, eqb}
use lib.ListN.{length, take, drop, length-append, length-drop}
use lib.Seq.{take-add, take_at, drop-cons, drop_at, length-take-le}
use borrow.Author.Tests.{eqb-true, eqb-false, le-leb, le-ltb, leb-true, ltb-false, not-false}
use Rattle.small.specs.Small.{pick, padded, each, All}
use Rattle.small.proofs.All.{all_take, all_at}
use Rattle.small.proofs.Padded.{padded_take, padded_length, padded_used, padded_unused}
use Rattle.small.proofs.Lists.{take_next}
use Rattle.refusal.specs.Refusal.{Passed}
use Rattle.refusal.proofs.Joined.{passed_join, passed_parts}
use Rattle.field.specs.Field.{byte_of, field_of, big}
use Rattle.field.specs.Bytes.{Bytes}
use Rattle.field.proofs.RoundTrip.{field_big, big_field}
use Rattle.field.proofs.Fields.{big_bytes, bytes_append, bytes_drop}
use Rattle.table.specs.Limits.{entries}
use Rattle.table.specs.Table.{ticks, release_number, period_of, offset_of, zero_task}
use Rattle.table.specs.Sound.{rangeb}
use Rattle.table.specs.Meaning.{Within, SoundRelease, SoundTask, SoundServer, KnownKind}
use Rattle.table.specs.declared.Release.{Release}
use Rattle.table.specs.declared.Release.TheVariants.{OnArrival, Periodic}
use Rattle.table.specs.declared.Task.{Task}
use Rattle.table.specs.declared.Server.{Server}
use Rattle.table.proofs.SoundLaws.{range_within, kind_known}
use Rattle.setup.specs.Layout.{task_bytes, head_bytes, server_bytes}
use Rattle.setup.specs.Read.{task_size, period_wrong, offset_wrong, task_checks, release_of, task_of, tasks_checks, tasks_of}
use Rattle.setup.specs.Read.{head_size, head_checks, server_size, server_checks, server_of, servers_checks, servers_of, servers_size}
use Rattle.setup.proofs.Writing.{task_length, head_length, server_length}

-- the bytes of a field
pub field_bytes : (w at : ℕ) (bs : List ℕ) → Bytes bs → at + w ≤ length bs → big w (field_of w (drop at bs)) ≡ take w (drop at bs)
field_bytes w at bs b h = big_field w (drop at bs) (bytes_drop at bs b) (rw length-drop (omega arith))

take_byte : (n at : ℕ) (bs : List ℕ) → at < length bs → take (suc n) (drop at bs) ≡ byte_of at bs ∷ take n (drop (suc at) bs)
take_byte n at bs h = rw (drop-cons bs at 0)

-- A TASK

-- bytes that begin with the record of a task
record IsTask (t : Task) (bs : List ℕ) : Type 0 where
  whole : task_size ≤ length bs
  number : byte_of 0 bs ≡ release_number t.release
  work : field_of 4 (drop 1 bs) ≡ t.work.0
  period : field_of 4 (drop 5 bs) ≡ period_of t.release
  offset : field_of 4 (drop 9 bs) ≡ offset_of t.release

release_is : (r : Release) (n T O : ℕ) → n ≡ release_number r → T ≡ period_of r → O ≡ offset_of r → release_of n T O ≡ r
release_is OnArrival n T O a b c = rw a
release_is (Periodic p o) n T O a b c = rw (a, b, c)

task_is : (t : Task) (bs : List ℕ) → IsTask t bs → task_of bs ≡ t
unfolding task_of
task_is t bs h =
    let r = release_is t.release _ _ _ h.number h.period h.offset in
    λ i. record { work = record { 0 = h.work i }; release = r i }

period_right : (D : ℕ) (r : Release) (n T : ℕ) → n ≡ release_number r → T ≡ period_of r → SoundRelease D r → period_wrong D n T ≡ false
period_right D OnArrival n T a b s = rw (a, b)
period_right D (Periodic p o) n T a b s = rw (a, b, (range_within 1 D p.0).1 s.period)

offset_right : (D : ℕ) (r : Release) (n O : ℕ) → n ≡ release_number r → O ≡ offset_of r → SoundRelease D r → offset_wrong D n O ≡ false
offset_right D OnArrival n O a b s = rw (a, b)
offset_right D (Periodic p o) n O a b s = rw (a, b, le-leb o.0 D s.offset)

number_known : (r : Release) (n : ℕ) → n ≡ release_number r → ltb 1 n ≡ false
number_known OnArrival n e = rw e
number_known (Periodic p o) n e = rw e

task_passes : (D W k : ℕ) (t : Task) (bs : List ℕ) → IsTask t bs → SoundTask D W t → Passed (task_checks D W k bs)
unfolding task_checks
task_passes D W k t bs h s = (
  le-ltb (length bs) task_size h.whole,
  (
    number_known t.release _ h.number,
    (
      rw (h.work, (range_within 1 W t.work.0).1 s.work),
      (period_right D t.release _ _ h.number h.period s.release, (offset_right D t.release _ _ h.number h.offset s.release, tt)),
    ),
  ),
)

-- the release of a record that passes
record IsRelease (D n T O : ℕ) (r : Release) : Type 0 where
  number : n ≡ release_number r
  period : T ≡ period_of r
  offset : O ≡ offset_of r
  sound : SoundRelease D r

release_read : (D n T O : ℕ) → ltb 1 n ≡ false → period_wrong D n T ≡ false → offset_wrong D n O ≡ false → IsRelease D n T O (release_of n T O)
release_read D n T O a b c = go (eqb n 0) refl b c
  where
    go : (x : Bool) → eqb n 0 ≡ x → not (pick x (eqb T 0) (rangeb 1 D T)) ≡ false → not (pick x (eqb O 0) (leb O D)) ≡ false
        → IsRelease D n T O (pick x OnArrival (Periodic (ticks T) (ticks O)))
    go true e p q = record {
      number = eqb-true n 0 e;
      period = eqb-true T 0 (not-false _ p);
      offset = eqb-true O 0 (not-false _ q);
      sound = tt;
    }
    go false e p q =
        let l : n ≤ 1 = ltb-false 1 n a in
        let m : n ≡ 0 → ⊥ = eqb-false n 0 e in
        record {
          number = omega arith;
          period = refl;
          offset = refl;
          sound = record { period = (range_within 1 D T).0 (not-false _ p); offset = leb-true O D (not-false _ q) };
        }

task_passed : (D W k : ℕ) (bs : List ℕ) → Passed (task_checks D W k bs) → IsTask (task_of bs) bs × SoundTask D W (task_of bs)
unfolding task_checks task_of
task_passed D W k bs (a, (b, (c, (d, (e, u))))) =
    let r = release_read D _ _ _ b d e in (
      record { whole = ltb-false (length bs) task_size a; number = r.number; work = refl; period = r.period; offset = r.offset },
      record { work = (range_within 1 W _).0 (not-false _ c); release = r.sound },
    )

-- a number above the limit does not occur, and the limit fits
release_fits : (D : ℕ) (r : Release) → D < 256 ^ 4 → SoundRelease D r → (period_of r < 256 ^ 4) × (offset_of r < 256 ^ 4)
release_fits D OnArrival h s = (omega arith, omega arith)
release_fits D (Periodic p o) h s = (omega arith, omega arith)

-- WRITTEN, THEN READ
task_written : (D W : ℕ) (t : Task) (rest : List ℕ) → D < 256 ^ 4 → W < 256 ^ 4 → SoundTask D W t → IsTask t (task_bytes t ++ rest)
unfolding task_bytes
task_written D W t rest d w s =
    let f = release_fits D t.release d s.release in
    record {
      whole = omega arith;
      number = refl;
      work = field_big 4 t.work.0 (omega arith) (drop 5 (task_bytes t ++ rest));
      period = field_big 4 (period_of t.release) f.0 (drop 9 (task_bytes t ++ rest));
      offset = field_big 4 (offset_of t.release) f.1 rest;
    }

-- READ, THEN WRITTEN
task_bytes_lem : (t : Task) (bs : List ℕ) → Bytes bs → IsTask t bs → task_bytes t ≡ take task_size bs
unfolding task_bytes
task_bytes_lem t bs b h =
    let w = field_bytes 4 1 bs b (omega (arith, h.whole)) in
    let p = field_bytes 4 5 bs b (omega (arith, h.whole)) in
    let o = field_bytes 4 9 bs b (omega (arith, h.whole)) in
    (λ i. sym h.number i ∷ (big 4 (sym h.work i) ++ (big 4 (sym h.period i) ++ big 4 (sym h.offset i))))
    ∙ (λ i. byte_of 0 bs ∷ (w i ++ (p i ++ o i)))
    ∙ sym (take_byte 12 0 bs (omega (arith, h.whole)) ∙ rw (take_next 4 8 1 bs, take_next 4 4 5 bs))

-- A ROW OF TASKS

tasks_number : (n : ℕ) (bs : List ℕ) → length (tasks_of n bs) ≡ n
tasks_number zero bs = refl
tasks_number (suc n) bs = ap suc (tasks_number n (drop task_size bs))

module _ (D W : ℕ) (d : D < 256 ^ 4) (w : W < 256 ^ 4) where
  tasks_read : (ts : List Task) (rest : List ℕ) → All (SoundTask D W) ts → tasks_of (length ts) (each task_bytes ts ++ rest) ≡ ts
  tasks_read [] rest s = refl
  tasks_read (t ∷ ts) rest s =
      let more = each task_bytes ts ++ rest in
      rw (
        append_assoc,
        task_is t (task_bytes t ++ more) (task_written D W t more d w s.0),
        drop_at (task_bytes t) more task_size (task_length t),
        tasks_read ts rest s.1,
      )

  tasks_pass : (k : ℕ) (ts : List Task) (rest : List ℕ) → All (SoundTask D W) ts → Passed (tasks_checks D W (length ts) k (each task_bytes ts ++ rest))
  tasks_pass k [] rest s = tt
  tasks_pass k (t ∷ ts) rest s =
      let more = each task_bytes ts ++ rest in
      let first = task_passes D W k t (task_bytes t ++ more) (task_written D W t more d w s.0) s.0 in
      rw (append_assoc, drop_at (task_bytes t) more task_size (task_length t)) (passed_join (task_checks D W k (task_bytes t ++ more)) _ first (tasks_pass (k + task_size) ts rest s.1))

-- what a row of n tasks that passes says of the bytes
record TasksPassed (D W n : ℕ) (bs : List ℕ) : Type 0 where
  whole : task_size * n ≤ length bs
  sound : All (SoundTask D W) (tasks_of n bs)
  bytes : Bytes bs → each task_bytes (tasks_of n bs) ≡ take (task_size * n) bs

tasks_passed : (D W n k : ℕ) (bs : List ℕ) → Passed (tasks_checks D W n k bs) → TasksPassed D W n bs
tasks_passed D W zero k bs p = record { whole = omega arith; sound = tt; bytes = λ b. refl }
tasks_passed D W (suc n) k bs p =
    let (q, ps) = passed_parts (task_checks D W k bs) _ p in
    let t = task_passed D W k bs q in
    let r = tasks_passed D W n (k + task_size) (drop task_size bs) ps in
    let size : task_size * suc n ≡ task_size + task_size * n = omega arith in
    record {
      whole = omega (arith, length-drop task_size bs);
      sound = (t.1, r.sound);
      bytes = λ b. rw (size, take-add task_size (task_size * n) bs, task_bytes_lem _ bs b t.0, r.bytes (bytes_drop task_size bs b));
    }

-- A SERVER

-- bytes that begin with the head of a server
record IsHead (s : Server) (bs : List ℕ) : Type 0 where
  whole : head_size ≤ length bs
  kind : byte_of 0 bs ≡ s.kind
  count : byte_of 1 bs ≡ s.count
  period : field_of 4 (drop 2 bs) ≡ s.period.0
  budget : field_of 4 (drop 6 bs) ≡ s.budget.0

head_written : (D W : ℕ) (s : Server) (rest : List ℕ) → D < 256 ^ 4 → SoundServer D W s → IsHead s (head_bytes s ++ rest)
unfolding head_bytes
head_written D W s rest d h = record {
  whole = omega arith;
  kind = refl;
  count = refl;
  period = field_big 4 s.period.0 (omega arith) (drop 6 (head_bytes s ++ rest));
  budget = field_big 4 s.budget.0 (omega arith) rest;
}

head_passes : (D W k : ℕ) (s : Server) (bs : List ℕ) → IsHead s bs → SoundServer D W s → Passed (head_checks D k bs)
unfolding head_checks
head_passes D W k s bs i h = (
  le-ltb (length bs) head_size i.whole,
  (
    rw (i.kind, (kind_known s.kind).1 h.kind),
    (
      rw i.count (le-ltb entries s.count h.count),
      (
        rw (i.period, (range_within 1 D s.period.0).1 h.period),
        (rw (i.period, i.budget, (range_within 1 s.period.0 s.budget.0).1 h.budget), tt),
      ),
    ),
  ),
)

-- what a head that passes says of the bytes
record HeadPassed (D : ℕ) (bs : List ℕ) : Type 0 where
  whole : head_size ≤ length bs
  kind : KnownKind (byte_of 0 bs)
  count : byte_of 1 bs ≤ entries
  period : Within 1 D (field_of 4 (drop 2 bs))
  budget : Within 1 (field_of 4 (drop 2 bs)) (field_of 4 (drop 6 bs))

head_passed : (D k : ℕ) (bs : List ℕ) → Passed (head_checks D k bs) → HeadPassed D bs
unfolding head_checks
head_passed D k bs (a, (b, (c, (d, (e, u))))) = record {
  whole = ltb-false (length bs) head_size a;
  kind = (kind_known (byte_of 0 bs)).0 (not-false _ b);
  count = ltb-false entries (byte_of 1 bs) c;
  period = (range_within 1 D _).0 (not-false _ d);
  budget = (range_within 1 _ _).0 (not-false _ e);
}

head_bytes_lem : (s : Server) (bs : List ℕ) → Bytes bs → IsHead s bs → head_bytes s ≡ take head_size bs
unfolding head_bytes
head_bytes_lem s bs b h =
    let p = field_bytes 4 2 bs b (omega (arith, h.whole)) in
    let c = field_bytes 4 6 bs b (omega (arith, h.whole)) in
    (λ i. sym h.kind i ∷ sym h.count i ∷ (big 4 (sym h.period i) ++ big 4 (sym h.budget i)))
    ∙ (λ i. byte_of 0 bs ∷ byte_of 1 bs ∷ (p i ++ c i))
    ∙ sym (take_byte 9 0 bs (omega (arith, h.whole)) ∙ rw (take_byte 8 1 bs (omega (arith, h.whole)), take_next 4 4 2 bs))

-- a server's entry as the code has it, with its eight tasks' entries
pub record Entry (D W : ℕ) (s : Server) : Type 0 where
  pub tasks : length s.tasks ≡ entries
  pub sound : SoundServer D W s

server_is : (s : Server) (bs : List ℕ) → IsHead s bs → padded zero_task entries (tasks_of s.count (drop head_size bs)) ≡ s.tasks → server_of bs ≡ s
unfolding server_of
server_is s bs h e =
    let ts = ap (λ (n : ℕ). padded zero_task entries (tasks_of n (drop head_size bs))) h.count ∙ e in
    λ i. record { tasks = ts i; count = h.count i; kind = h.kind i; period = record { 0 = h.period i }; budget = record { 0 = h.budget i } }

-- WRITTEN, THEN READ

-- the tasks' entries in use
abbrev used : Server → List Task
used s = take s.count s.tasks

module _ (D W : ℕ) (s : Server) (h : Entry D W s) where
  used_number : length (used s) ≡ s.count
  used_number = length-take-le s.count s.tasks (omega arith)

  used_sound : All (SoundTask D W) (used s)
  used_sound = all_take (SoundTask D W) zero_task s.tasks s.count (omega arith) h.sound.used

  used_filled : padded zero_task entries (used s) ≡ s.tasks
  used_filled = rw h.tasks at (padded_take zero_task s.count s.tasks (omega arith) h.sound.unused)

  entry_length : length (server_bytes s) ≡ head_size + task_size * s.count
  entry_length = rw (server_length s, used_number)

module _ (D W : ℕ) (d : D < 256 ^ 4) (w : W < 256 ^ 4) (s : Server) (h : Entry D W s) (rest : List ℕ) where
  more : List ℕ
  more = each task_bytes (used s) ++ rest

  server_split : server_bytes s ++ rest ≡ head_bytes s ++ more
  unfolding server_bytes more
  server_split = append_assoc (head_bytes s) (each task_bytes (used s)) rest

  server_head : IsHead s (server_bytes s ++ rest)
  server_head = rw server_split (head_written D W s more d h.sound)

  server_tasks : drop head_size (server_bytes s ++ rest) ≡ more
  server_tasks = rw server_split (drop_at (head_bytes s) more head_size (head_length s))

  more_read : tasks_of s.count more ≡ used s
  unfolding more
  more_read = subst (λ (n : ℕ). tasks_of n more ≡ used s) (used_number D W s h) (tasks_read D W d w (used s) rest (used_sound D W s h))

  more_passes : (k : ℕ) → Passed (tasks_checks D W s.count k more)
  unfolding more
  more_passes k = subst (λ (n : ℕ). Passed (tasks_checks D W n k more)) (used_number D W s h) (tasks_pass D W d w k (used s) rest (used_sound D W s h))

  server_read : server_of (server_bytes s ++ rest) ≡ s
  server_read = server_is s (server_bytes s ++ rest) server_head (rw (server_tasks, more_read) (used_filled D W s h))

  server_passes : (k : ℕ) → Passed (server_checks D W k (server_bytes s ++ rest))
  unfolding server_checks
  server_passes k =
      passed_join (head_checks D k (server_bytes s ++ rest)) _ (head_passes D W k s (server_bytes s ++ rest) server_head h.sound)
      (rw (server_head.count, server_tasks) (more_passes (k + head_size)))

  server_size_lem : server_size (server_bytes s ++ rest) ≡ length (server_bytes s)
  server_size_lem = rw (server_head.count, entry_length D W s h)

  server_next : drop (server_size (server_bytes s ++ rest)) (server_bytes s ++ rest) ≡ rest
  server_next = drop_at (server_bytes s) rest _ (sym server_size_lem)

-- READ, THEN WRITTEN
record ServerPassed (D W : ℕ) (bs : List ℕ) : Type 0 where
  whole : server_size bs ≤ length bs
  entry : Entry D W (server_of bs)
  bytes : Bytes bs → server_bytes (server_of bs) ≡ take (server_size bs) bs

server_passed : (D W k : ℕ) (bs : List ℕ) → Passed (server_checks D W k bs) → ServerPassed D W bs
unfolding server_checks server_of server_bytes
server_passed D W k bs p =
    let (q, ps) = passed_parts (head_checks D k bs) _ p in
    let h = head_passed D k bs q in
    let r = tasks_passed D W n (k + head_size) (drop head_size bs) ps in
    let l : length ts ≡ n = tasks_number n (drop head_size bs) in
    record {
      whole = omega (arith, length-drop head_size bs);
      entry = record {
        tasks = padded_length zero_task entries ts (omega arith);
        sound = record {
          kind = h.kind;
          period = h.period;
          budget = h.budget;
          count = h.count;
          used = λ j m. rw (padded_used zero_task entries ts (omega arith) j (omega arith)) (all_at (SoundTask D W) zero_task ts r.sound j (omega arith));
          unused = λ j m x. padded_unused zero_task entries ts (omega arith) j (omega arith) (rw (padded_length zero_task entries ts (omega arith)) at x);
        };
      };
      bytes = λ b. bytes_of_lem l (r.bytes (bytes_drop head_size bs b)) b h.whole;
    }
  where
    n : ℕ
    n = byte_of 1 bs

    ts : List Task
    ts = tasks_of n (drop head_size bs)

    bytes_of_lem : length ts ≡ n → each task_bytes ts ≡ take (task_size * n) (drop head_size bs) → Bytes bs → head_size ≤ length bs → server_bytes (server_of bs) ≡ take (server_size bs) bs
    bytes_of_lem l e b h =
        let whole : IsHead (server_of bs) bs = record { whole = h; kind = refl; count = refl; period = refl; budget = refl } in
        let t : take n (padded zero_task entries ts) ≡ ts = take_at ts _ n l in
        rw (t, head_bytes_lem (server_of bs) bs b whole, e) (sym (take-add head_size (task_size * n) bs))

-- A ROW OF SERVERS

pub servers_number : (n : ℕ) (bs : List ℕ) → length (servers_of n bs) ≡ n
servers_number zero bs = refl
servers_number (suc n) bs = ap suc (servers_number n (drop (server_size bs) bs))

-- a server with eight tasks takes 114 bytes
pub servers_most : (D W : ℕ) (ss : List Server) → All (Entry D W) ss → length (each server_bytes ss) ≤ 114 * length ss
servers_most D W [] h = omega arith
servers_most D W (s ∷ ss) h = rw (length-append, entry_length D W s h.0) (omega (arith, h.0.sound.count, servers_most D W ss h.1))

module _ (D W : ℕ) (d : D < 256 ^ 4) (w : W < 256 ^ 4) where
  pub servers_read : (ss : List Server) (rest : List ℕ) → All (Entry D W) ss → servers_of (length ss) (each server_bytes ss ++ rest) ≡ ss
  servers_read [] rest h = refl
  servers_read (s ∷ ss) rest h =
      let more = each server_bytes ss ++ rest in
      rw (append_assoc, server_read D W d w s h.0 more, server_next D W d w s h.0 more, servers_read ss rest h.1)

  pub servers_pass : (k : ℕ) (ss : List Server) (rest : List ℕ) → All (Entry D W) ss → Passed (servers_checks D W (length ss) k (each server_bytes ss ++ rest))
  servers_pass k [] rest h = tt
  servers_pass k (s ∷ ss) rest h =
      let more = each server_bytes ss ++ rest in
      let bs = server_bytes s ++ more in
      rw (append_assoc, server_next D W d w s h.0 more)
      (passed_join (server_checks D W k bs) _ (server_passes D W d w s h.0 more k) (servers_pass (k + server_size bs) ss rest h.1))

  pub servers_size_lem : (ss : List Server) (rest : List ℕ) → All (Entry D W) ss → servers_size (length ss) (each server_bytes ss ++ rest) ≡ length (each server_bytes ss)
  servers_size_lem [] rest h = refl
  servers_size_lem (s ∷ ss) rest h =
      let more = each server_bytes ss ++ rest in
      rw (append_assoc, server_next D W d w s h.0 more, server_size_lem D W d w s h.0 more, servers_size_lem ss rest h.1, length-append)

pub record ServersPassed (D W n : ℕ) (bs : List ℕ) : Type 0 where
  pub whole : servers_size n bs ≤ length bs
  pub sound : All (Entry D W) (servers_of n bs)
  pub bytes : Bytes bs → each server_bytes (servers_of n bs) ≡ take (servers_size n bs) bs

pub servers_passed : (D W n k : ℕ) (bs : List ℕ) → Passed (servers_checks D W n k bs) → ServersPassed D W n bs
servers_passed D W zero k bs p = record { whole = omega arith; sound = tt; bytes = λ b. refl }
servers_passed D W (suc n) k bs p =
    let next = drop (server_size bs) bs in
    let (q, ps) = passed_parts (server_checks D W k bs) _ p in
    let s = server_passed D W k bs q in
    let r = servers_passed D W n (k + server_size bs) next ps in
    record {
      whole = omega (arith, length-drop (server_size bs) bs);
      sound = (s.entry, r.sound);
      bytes = λ b. rw (take-add (server_size bs) (servers_size n next) bs, s.bytes b, r.bytes (bytes_drop (server_size bs) bs b));
    }

-- BYTES: every field is below 256

each_bytes : {A : Type 0} (P : A → Type 0) (f : A → List ℕ) → ((x : A) → P x → Bytes (f x)) → (xs : List A) → All P xs → Bytes (each f xs)
each_bytes P f b [] h = tt
each_bytes P f b (x ∷ xs) h = bytes_append (f x) (each f xs) (b x h.0) (each_bytes P f b xs h.1)

fields_bytes : (x y : ℕ) → Bytes (big 4 x ++ big 4 y)
fields_bytes x y = bytes_append (big 4 x) (big 4 y) (big_bytes 4 x) (big_bytes 4 y)

number_byte : (r : Release) → release_number r < 256
number_byte OnArrival = omega arith
number_byte (Periodic p o) = omega arith

task_all_bytes : (t : Task) → Bytes (task_bytes t)
unfolding task_bytes
task_all_bytes t =
    let T = period_of t.release in
    let O = offset_of t.release in
    (number_byte t.release, bytes_append (big 4 t.work.0) (big 4 T ++ big 4 O) (big_bytes 4 t.work.0) (fields_bytes T O))

kind_byte : (k : ℕ) → KnownKind k → k < 256
kind_byte k (inl e) = omega arith
kind_byte k (inr (inl e)) = omega arith
kind_byte k (inr (inr e)) = omega arith

server_all_bytes : (D W : ℕ) (s : Server) → Entry D W s → Bytes (server_bytes s)
unfolding server_bytes head_bytes
server_all_bytes D W s h =
    let head : Bytes (head_bytes s) = (kind_byte s.kind h.sound.kind, (omega arith, fields_bytes s.period.0 s.budget.0)) in
    bytes_append (head_bytes s) (each task_bytes (used s)) head (each_bytes (SoundTask D W) task_bytes (λ t x. task_all_bytes t) (used s) (used_sound D W s h))

pub servers_all_bytes : (D W : ℕ) (ss : List Server) → All (Entry D W) ss → Bytes (each server_bytes ss)
servers_all_bytes D W = each_bytes (Entry D W) server_bytes (server_all_bytes D W)
