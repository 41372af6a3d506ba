-- What is left to compute of a fresh state, by the place that a loop has come to, and an array that is made of another. Assumes nothing.
use mathlib.Core.Path.{◌≡◌, refl, sym, ap, ◌∙◌}
use mathlib.Core.List.{List, [], ◌∷◌, map}
use Prim.Native.Nat.{ℕ, zero, suc, ◌+◌, ◌≤◌, ◌<◌}
use native.Mathlib.Numerals.{add-one}
use native.Mathlib.Omega.{arith}
use denote.Param.Members.{Mut}
use Rattle.std.specs.Fn.{Called}
use Rattle.std.specs.Array.{IsFromFnResult, IsFromFnResultFrom}
use lib.Dec.{eqb}
use lib.ListN.{length, get_or, drop, drop_of_length-le}
use lib.Seq.{drop-cons}
use Rattle.small.specs.Small.{pick}
use Rattle.queue.specs.Limits.{max_gap, longest}
use Rattle.queue.specs.Calls.{insert_of}
use Rattle.queue.specs.declared.Queue.{Queue}
use Rattle.table.specs.declared.Task.{Task}
use Rattle.table.specs.declared.Server.{Server}
use Rattle.state.specs.Fresh.{put_in, fresh_load, fresh_loads, fresh_entry, fresh_entries}

-- EVENTS PUT IN, in the queue q those of the places before i: the whole is q with the others put in. z is what the code's read past the end would give
module _ {A : Type 0} (f : A → ℕ) (xs : List A) (i : ℕ) (q : Queue) {whole : Queue} (is : whole ≡ put_in f (drop i xs) i q) where
  pub put_step : (z : A) {p : Queue} → i < length xs → p ≡ pick (eqb (f (get_or xs i z)) 0) q (insert_of max_gap longest q i (f (get_or xs i z))).queue
      → whole ≡ put_in f (drop (i + 1) xs) (i + 1) p
  put_step z h e = is ∙ rw (drop-cons xs i z, add-one, e)

  pub put_end : length xs ≤ i → q ≡ whole
  put_end h = sym (is ∙ rw drop_of_length-le)

-- a server's loads and a table's entries are what is made of each task and each server

pub loads_made : (ts : List Task) → map fresh_load ts ≡ fresh_loads ts
loads_made [] = refl
loads_made (t ∷ ts) = ap (λ l. fresh_load t ∷ l) (loads_made ts)

pub entries_made : (ss : List Server) → map fresh_entry ss ≡ fresh_entries ss
entries_made [] = refl
entries_made (s ∷ ss) = ap (λ l. fresh_entry s ∷ l) (entries_made ss)

-- AN ARRAY MADE OF ANOTHER by `from_fn`, place by place. z is what the code's read past the end would give
module _ {F A B : Type 0} (g : Mut F (ℕ × Unit {0}) B) (h : A → B) (xs : List A) (z : A) (f : F) (ys : List B)
    (k : (i : ℕ) (y : B) (q : F) → i < length xs → Called g f (i, tt) y q → (q ≡ f) × (y ≡ h (get_or xs i z))) where
  made_from : (i n : ℕ) → i + n ≡ length xs → length ys ≡ length xs → IsFromFnResultFrom g f ys i n → drop i ys ≡ map h (drop i xs)
  made_from i zero e same r = rw (drop_of_length-le ys {i = i} (omega arith), drop_of_length-le xs {i = i} (omega arith))
  made_from i (suc n) e same r =
      let l : i < length ys = omega arith in
      let m : i < length xs = omega arith in
      let w = k i r.1 r.0 m r.3 in
      let rest = made_from (i + 1) n (omega arith) same (rw w.0 at r.4) in
      rw (drop-cons ys i r.1, drop-cons xs i z, r.2.0, w.1) (ap (λ (l : List B). h (get_or xs i z) ∷ l) (rw add-one at rest))

pub made_map : {F A B : Type 0} (g : Mut F (ℕ × Unit {0}) B) (h : A → B) (xs : List A) (z : A) {f : F} {ys : List B} {n : ℕ} → IsFromFnResult g f ys n → length xs ≡ n
    → ((i : ℕ) (y : B) (q : F) → i < length xs → Called g f (i, tt) y q → (q ≡ f) × (y ≡ h (get_or xs i z))) → ys ≡ map h xs
made_map g h xs z {f} {ys} {n} r full k = made_from g h xs z f ys k 0 n (omega arith) (r.long ∙ sym full) r.each
