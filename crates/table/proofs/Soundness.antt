-- What the tests of a table say, in the words of specs/Meaning.antt, over any longest distance D and any most work W. Assumes nothing.
use mathlib.Core.Path.{◌≡◌, refl, sym, ap, ◌∙◌}
use mathlib.Core.Bool.{true}
use mathlib.Core.Logic.{◌↔◌}
use Prim.Native.Nat.{ℕ, ◌≤◌}
use native.Mathlib.Omega.{arith}
use lib.Dec.{leb, eqb}
use lib.ListN.{length, get_or, replicate, get_or-replicate}
use lib.Seq.{ext_get_or}
use borrow.Author.Tests.{leb-true, eqb-true, le-leb}
use Rattle.small.proofs.Tests.{both_left, both_right}
use Rattle.small.proofs.Used.{Each, each_from, each_to}
use Rattle.table.specs.Limits.{entries}
use Rattle.table.specs.Table.{zero_task, zero_server}
use Rattle.table.specs.Sound.{rangeb, releaseb, taskb, zero_taskb, kindb, serverb, zero_serverb, tableb}
use Rattle.table.specs.Meaning.{Within, SoundRelease, SoundTask, SoundServer, SoundTable, Sized}
use Rattle.table.specs.declared.Release.{Release}
use Rattle.table.specs.declared.Release.TheVariants.{OnArrival, Periodic}
use Rattle.table.specs.declared.Task.{Task}
use Rattle.table.specs.declared.Server.{Server}
use Rattle.table.specs.declared.Table.{Table}
use Rattle.table.proofs.SoundLaws.{range_within, kind_known, zero_task_lem}

-- THE TESTS IN WORDS

release_sound_lem : (D : ℕ) (r : Release) → releaseb D r ≡ true ↔ SoundRelease D r
release_sound_lem D OnArrival = (λ e. tt, λ u. refl)
release_sound_lem D (Periodic T O) = (
  λ e. record { period = (range_within 1 D T.0).0 (both_left _ _ e); offset = leb-true O.0 D (both_right (rangeb 1 D T.0) _ e) },
  λ w. rw ((range_within 1 D T.0).1 w.period, le-leb O.0 D w.offset),
)

task_sound_lem : (D W : ℕ) (t : Task) → taskb D W t ≡ true ↔ SoundTask D W t
task_sound_lem D W t = (
  λ e. record { work = (range_within 1 W t.work.0).0 (both_left _ _ e); release = (release_sound_lem D t.release).0 (both_right (rangeb 1 W t.work.0) _ e) },
  λ w. rw ((range_within 1 W t.work.0).1 w.work) ((release_sound_lem D t.release).1 w.release),
)

zero_server_lem : (s : Server) → length s.tasks ≡ entries → zero_serverb s ≡ true ↔ (s ≡ zero_server)
zero_server_lem s full = (forth, λ e. ap zero_serverb e)
  where
    forth : zero_serverb s ≡ true → s ≡ zero_server
    forth e =
        let a = both_right (eqb s.kind 0) _ e in
        let b = both_right (eqb s.period.0 0) _ a in
        let c = both_right (eqb s.budget.0 0) _ b in
        let each = each_from zero_taskb zero_taskb zero_task s.tasks 0 (omega arith) (both_right (eqb s.count 0) _ c) in
        let k : s.kind ≡ 0 = eqb-true s.kind 0 (both_left _ _ e) in
        let p : s.period.0 ≡ 0 = eqb-true s.period.0 0 (both_left _ _ a) in
        let q : s.budget.0 ≡ 0 = eqb-true s.budget.0 0 (both_left _ _ b) in
        let n : s.count ≡ 0 = eqb-true s.count 0 (both_left _ _ c) in
        let ts : s.tasks ≡ replicate entries zero_task =
        ext_get_or zero_task s.tasks (replicate entries zero_task) full λ i h. (zero_task_lem (get_or s.tasks i zero_task)).0 (each.unused i (omega arith) h) ∙ sym (get_or-replicate entries i zero_task zero_task (omega arith)) in
        λ j. record { tasks = ts j; count = n j; kind = k j; period = record { 0 = p j }; budget = record { 0 = q j } }

server_sound_lem : (D W : ℕ) (s : Server) → length s.tasks ≡ entries → serverb D W s ≡ true ↔ SoundServer D W s
server_sound_lem D W s full = (forth, back)
  where
    forth : serverb D W s ≡ true → SoundServer D W s
    forth e =
        let a = both_right (kindb s.kind) _ e in
        let b = both_right (rangeb 1 D s.period.0) _ a in
        let c = both_right (rangeb 1 s.period.0 s.budget.0) _ b in
        let n : s.count ≤ entries = leb-true s.count entries (both_left _ _ c) in
        let each = each_from (taskb D W) zero_taskb zero_task s.tasks s.count (omega arith) (both_right (leb s.count entries) _ c) in
        record {
          kind = (kind_known s.kind).0 (both_left _ _ e);
          period = (range_within 1 D s.period.0).0 (both_left _ _ a);
          budget = (range_within 1 s.period.0 s.budget.0).0 (both_left _ _ b);
          count = n;
          used = λ j h. (task_sound_lem D W (get_or s.tasks j zero_task)).0 (each.used j h);
          unused = λ j m h. (zero_task_lem (get_or s.tasks j zero_task)).0 (each.unused j m h);
        }

    back : SoundServer D W s → serverb D W s ≡ true
    back w =
        let each : Each (taskb D W) zero_taskb zero_task s.tasks s.count =
        record {
          used = λ j h. (task_sound_lem D W (get_or s.tasks j zero_task)).1 (w.used j h);
          unused = λ j m h. (zero_task_lem (get_or s.tasks j zero_task)).1 (w.unused j m h);
        } in
        rw (
          (kind_known s.kind).1 w.kind,
          (range_within 1 D s.period.0).1 w.period,
          (range_within 1 s.period.0 s.budget.0).1 w.budget,
          le-leb s.count entries w.count,
        )
        (each_to (taskb D W) zero_taskb zero_task s.tasks s.count each)

-- "A TABLE ALONE IS SOUND IF ITS VALUES ARE IN RANGE AND ITS UNUSED ENTRIES ZERO"
pub table_sound : (D W : ℕ) (t : Table) → Sized t → tableb D W t ≡ true ↔ SoundTable D W t
unfolding tableb
table_sound D W t z = (forth, back)
  where
    at : ℕ → Server
    at i = get_or t.servers i zero_server

    forth : tableb D W t ≡ true → SoundTable D W t
    forth e =
        let n : Within 1 entries t.count = (range_within 1 entries t.count).0 (both_left _ _ e) in
        let each = each_from (serverb D W) zero_serverb zero_server t.servers t.count (omega (arith, z.servers, n.high)) (both_right (rangeb 1 entries t.count) _ e) in
        record {
          count = n;
          used = λ i h. (server_sound_lem D W (at i) (z.tasks i (omega (arith, n.high)))).0 (each.used i h);
          unused = λ i m h. (zero_server_lem (at i) (z.tasks i (omega (arith, z.servers)))).0 (each.unused i m h);
        }

    back : SoundTable D W t → tableb D W t ≡ true
    back w =
        let each : Each (serverb D W) zero_serverb zero_server t.servers t.count =
        record {
          used = λ i h. (server_sound_lem D W (at i) (z.tasks i (omega (arith, w.count.high)))).1 (w.used i h);
          unused = λ i m h. (zero_server_lem (at i) (z.tasks i (omega (arith, z.servers)))).1 (w.unused i m h);
        } in
        rw ((range_within 1 entries t.count).1 w.count) (each_to (serverb D W) zero_serverb zero_server t.servers t.count each)
