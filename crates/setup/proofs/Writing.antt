-- Laws of the writer: how many bytes the parts of a table take, that parts written one behind the other are written as one, and what a table that the code
-- holds gives the writer. Assumes nothing.
use mathlib.Core.Path.{◌≡◌, refl, sym, ap, ◌∙◌}
use mathlib.Core.Bool.{Bool, true}
use mathlib.Core.List.{List, [], ◌∷◌, ◌++◌}
use Prim.Native.Nat.{ℕ, zero, suc, ◌+◌, ◌*◌, ◌≤◌, ◌<◌}
use native.Mathlib.Nat.{add-zero}
use native.Mathlib.Omega.{arith}
use lib.ListN.{length, take, get_or, length-append}
use lib.Seq.{take-length}
use lib.Dec.{leb}
use borrow.Author.Tests.{leb-true}
use Rattle.small.specs.Small.{each, usedb, All}
use Rattle.small.proofs.Each.{each_more, length_more, length_fewer, sizes_of, each_length}
use Rattle.small.proofs.Tests.{both_left, both_right}
use Rattle.field.specs.Field.{over}
use Rattle.field.proofs.Fields.{over_over, over_length, over_nil}
use Rattle.table.specs.Limits.{entries}
use Rattle.table.specs.Sound.{rangeb, kindb, serverb, zero_serverb, tableb}
use Rattle.table.specs.declared.Task.{Task}
use Rattle.table.specs.declared.Server.{Server}
use Rattle.table.specs.declared.Table.{Table}
use Rattle.setup.specs.Layout.{task_bytes, head_bytes, server_bytes, record_bytes, bytes_of}
use Rattle.setup.specs.Read.{task_size, head_size}

-- BYTES ONE BEHIND THE OTHER

-- bytes written at the place behind those written before are written with them; a and b are the buffers that the two writes leave
pub further : (at k : ℕ) (xs ys buf a b : List ℕ) → a ≡ over at xs buf → b ≡ over k ys a → k ≡ at + length xs → k + length ys ≤ length buf → b ≡ over at (xs ++ ys) buf
further at k xs ys buf a b p q e h = rw (q, p, e) (over_over at xs ys buf (omega arith))

-- a loop that writes the bytes of each element from the place `at` on: before the one at i those of the first i are written, and the next place is behind them
pub record Done {A : Type 0} (f : A → List ℕ) (xs : List A) (at : ℕ) (buf : List ℕ) (i next : ℕ) (out : List ℕ) : Type 0 where
  pub place : next ≡ at + length (each f (take i xs))
  pub bytes : out ≡ over at (each f (take i xs)) buf

module _ {A : Type 0} (f : A → List ℕ) (xs : List A) (at : ℕ) (buf : List ℕ) (room : at + length (each f xs) ≤ length buf) where
  pub done_start : Done f xs at buf 0 at buf
  done_start = record { place = sym (add-zero at); bytes = sym (over_nil at buf (omega arith)) }

  -- where the buffer has room for the bytes of all, it has room for those of the one at i, x, and with them one more is written
  module _ {i next : ℕ} {out : List ℕ} (before : i < length xs) (d : Done f xs at buf i next out) (x : A) (is : x ≡ get_or xs i x) where
    all_room : at + length (each f (take (length xs) xs)) ≤ length buf
    all_room = rw take-length room

    size : length (f x) ≡ length (f (get_or xs i x))
    size = ap (λ (y : A). length (f y)) is

    fits : next + length (f x) ≤ length buf
    fits = omega (arith, all_room, size, d.place, length_more f xs i x (omega arith), length_fewer f xs (i + 1) (length xs) (omega arith))

    pub done_room : next + length (f x) ≤ length out
    done_room = rw (d.bytes, over_length) fits

    pub done_more : (next' : ℕ) (out' : List ℕ) → next' ≡ next + length (f x) → out' ≡ over next (f x) out → Done f xs at buf (i + 1) next' out'
    done_more next' out' p b = record {
      place = omega (arith, d.place, size, length_more f xs i x (omega arith));
      bytes =
          rw (each_more f xs i x (omega arith))
          (further at next _ _ buf out out' d.bytes (b ∙ ap (λ (y : A). over next (f y) out) is) d.place (omega (arith, fits, size)));
    }

-- LENGTHS

pub task_length : (t : Task) → length (task_bytes t) ≡ task_size
unfolding task_bytes
task_length t = refl

pub head_length : (s : Server) → length (head_bytes s) ≡ head_size
unfolding head_bytes
head_length s = refl

pub server_parts : (s : Server) → length (server_bytes s) ≡ head_size + length (each task_bytes (take s.count s.tasks))
unfolding server_bytes
server_parts s = rw (length-append, head_length s)

pub server_length : (s : Server) → length (server_bytes s) ≡ head_size + task_size * length (take s.count s.tasks)
server_length s =
    let ts = take s.count s.tasks in
    rw (server_parts s, each_length task_bytes task_size ts (sizes_of task_bytes task_size task_length ts))

pub table_length : (t : Table) → length (bytes_of t) ≡ 4 + length (record_bytes t)
unfolding bytes_of
table_length t = omega arith

-- A TABLE

used_good : {A : Type 0} (P : A → Type 0) (good none : A → Bool) → ((x : A) → good x ≡ true → P x) → (xs : List A) (n : ℕ) → usedb good none xs n ≡ true → All P (take n xs)
used_good P good none g xs zero h = tt
used_good P good none g [] (suc n) h = tt
used_good P good none g (x ∷ xs) (suc n) h = (g x (both_left _ _ h), used_good P good none g xs n (both_right (good x) _ h))

-- a server that has no more tasks in use than entries
abbrev pub Fit : Server → Type 0
Fit s = s.count ≤ entries

-- a sound table has no more servers in use than entries, and each is fit
module _ (D W : ℕ) (t : Table) (sound : tableb D W t ≡ true) where
  pub used_most : t.count ≤ entries
  unfolding tableb
  used_most = leb-true t.count entries (both_right (leb 1 t.count) _ (both_left _ _ sound))

  pub used_fit : All Fit (take t.count t.servers)
  unfolding tableb
  used_fit = used_good Fit (serverb D W) zero_serverb count_fits t.servers t.count (both_right (rangeb 1 entries t.count) _ sound)
    where
      count_fits : (s : Server) → serverb D W s ≡ true → Fit s
      count_fits s e =
          let a = both_right (kindb s.kind) _ e in
          let b = both_right (rangeb 1 D s.period.0) _ a in
          leb-true s.count entries (both_left _ _ (both_right (rangeb 1 s.period.0 s.budget.0) _ b))
