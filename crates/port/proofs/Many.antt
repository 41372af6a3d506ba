-- Things of so many words each, one behind the other: how many words they take, what reads back, and what a loop that writes them one by one has done before the
-- one at i. Over any kind of thing, its size in words, its reader g and its words f. Assumes nothing.
use mathlib.Core.Path.{◌≡◌, refl, sym, ap, ◌∙◌}
use mathlib.Core.List.{List, [], ◌∷◌, ◌++◌, append_assoc}
use Prim.Native.Nat.{ℕ, zero, suc, ◌+◌, ◌-◌, ◌*◌, ◌≤◌, ◌<◌}
use native.Mathlib.Nat.{mul-zero, mul-suc, add_comm, not-suc-le-zero}
use native.Mathlib.Omega.{arith}
use lib.ListN.{length, take, drop, get_or, set, length-append, length-drop, length-set}
use borrow.Rule.Slice.PartMut.{put_mid}
use lib.Seq.{take_at, take_all, take-add, drop_at, drop-drop}
use mathlib.Core.Logic.{⊎_elim}
use Rattle.std.proofs.Math.Nat.{eq-or-lt_of_le}
use Rattle.std.proofs.lemmas.List.{ext_get_or, set_split, get_or-set_same, get_or-set_other}
use Rattle.small.specs.Small.{each, All}
use Rattle.small.proofs.Each.{each_more}
use Rattle.port.specs.Words.{many_in}

-- the place of the one behind the first, of the one at i + 1
next_place : (size i : ℕ) → size * suc i ≡ size + size * i
next_place size i = mul-suc size i ∙ add_comm (size * i) size

-- the words from a place on, as the code takes them
pub behind_place : (k : ℕ) (w : List ℕ) → take (length w - k) (drop k w) ≡ drop k w
behind_place k w = take_all (length w - k) (drop k w) (rw length-drop (omega arith))

-- READING

module _ {A : Type 0} (size : ℕ) (g : List ℕ → A) where
  pub many_count : (n : ℕ) (ws : List ℕ) → length (many_in size g n ws) ≡ n
  many_count zero ws = refl
  many_count (suc n) ws = ap suc (many_count n (drop size ws))

  -- the one at i
  pub many_at : (n i : ℕ) (ws : List ℕ) (z : A) → i < n → get_or (many_in size g n ws) i z ≡ g (drop (size * i) ws)
  many_at zero i ws z h = absurd (not-suc-le-zero h)
  many_at (suc n) zero ws z h = rw mul-zero
  many_at (suc n) (suc i) ws z h = rw (many_at n i (drop size ws) z (omega arith), drop-drop, next_place)

  -- so many, of which the one at each place is that
  pub many_is : (n : ℕ) (ws : List ℕ) (xs : List A) → length xs ≡ n → ((i : ℕ) (z : A) → i < n → get_or xs i z ≡ g (drop (size * i) ws)) → xs ≡ many_in size g n ws
  many_is zero ws [] l h = refl
  many_is zero ws (x ∷ xs) l h = absurd (omega arith)
  many_is (suc n) ws [] l h = absurd (omega arith)
  many_is (suc n) ws (x ∷ xs) l h =
      ext_get_or x (x ∷ xs) (many_in size g (suc n) ws) (l ∙ sym (many_count (suc n) ws))
      (λ i k. h i x (omega arith) ∙ sym (many_at (suc n) i ws x (omega arith)))

  -- A loop that reads n things one by one: before the one at i, those before it are the ones that the words hold
  pub record Held (n : ℕ) (ws : List ℕ) (i : ℕ) (xs : List A) : Type 0 where
    pub long : length xs ≡ n
    pub each : (k : ℕ) (z : A) → k < i → get_or xs k z ≡ g (drop (size * k) ws)

  -- the one at i is read
  pub held_more : {n : ℕ} {ws : List ℕ} {i : ℕ} {xs : List A} → Held n ws i xs → (x : A) → i < n → x ≡ g (drop (size * i) ws) → Held n ws (i + 1) (set xs i x)
  held_more {n} {ws} {i} {xs} s x h e = record {
    long = rw length-set s.long;
    each = λ k z l. ⊎_elim
        (λ (c : k ≡ i). rw c (get_or-set_same xs i x z (omega (arith, s.long)) ∙ e))
        (λ (c : k < i). get_or-set_other xs i k x z (λ (q : k ≡ i). omega (arith, q, c)) ∙ s.each k z c)
        (eq-or-lt_of_le (omega arith));
  }

  pub held_all : (n : ℕ) (ws : List ℕ) (i : ℕ) (xs : List A) → n ≤ i → Held n ws i xs → xs ≡ many_in size g n ws
  held_all n ws i xs h s = many_is n ws xs s.long (λ k z l. s.each k z (omega arith))

-- WRITING

-- A loop that writes the words of the things xs, each of the size, over a buffer: before the one at i, those of the first i are written, and so many words
module _ {A : Type 0} (f : A → List ℕ) (size : ℕ) (xs : List A) (buf : List ℕ) where
  pub record Put (i : ℕ) (out : List ℕ) : Type 0 where
    pub words : out ≡ each f (take i xs) ++ drop (size * i) buf
    pub long : length (each f (take i xs)) ≡ size * i

module _ {A : Type 0} {f : A → List ℕ} {size : ℕ} {xs : List A} {buf : List ℕ} {i : ℕ} {out : List ℕ} (p : Put f size xs buf i out) where
  -- the words of the one at i are put at their place
  pub put_more : (x : A) (new : List ℕ) (a k : ℕ) → i < length xs → x ≡ get_or xs i x → new ≡ f x → length new ≡ size → a ≡ size * i → k ≡ size
      → Put f size xs buf (i + 1) (put_mid a k out new)
  put_more x new a k h e n l q r =
      let before = each f (take i xs) in
      let rest = drop (size * i) buf in
      let more : each f (take (i + 1) xs) ≡ before ++ f x = rw (each_more f xs i x h, ← e) in
      let one : i + 1 ≡ suc i = omega arith in
      let next : size * (i + 1) ≡ size * i + size = rw one (mul-suc size i) in
      let behind : drop size (drop (size * i) (before ++ rest)) ≡ drop (size * (i + 1)) buf =
      rw (drop_at before rest (size * i) p.long, drop-drop, next) in
      let front : take (size * i) (before ++ rest) ≡ before = take_at before rest (size * i) p.long in
      record {
        words = rw (p.words, q, r, n, front, behind, more) (sym (append_assoc before (f x) _));
        long = rw (more, length-append, p.long, ← n, l, next);
      }

-- one word stored is a part of one word put
pub set_mid : (xs : List ℕ) (i y : ℕ) → i < length xs → set xs i y ≡ put_mid i 1 xs (y ∷ [])
set_mid xs i y h =
    let one : i + 1 ≡ suc i = omega arith in
    set_split xs i y h ∙ rw (drop-drop, one) refl

-- WRITTEN, THEN READ

module _ {A : Type 0} (size : ℕ) (f : A → List ℕ) (g : List ℕ → A) where
  -- a thing of the size whose words read back, whatever stands behind them
  pub record Back (x : A) : Type 0 where
    pub whole : length (f x) ≡ size
    pub back : (rest : List ℕ) → g (f x ++ rest) ≡ x

  pub many_back : (xs : List A) (rest : List ℕ) → All Back xs → many_in size g (length xs) (each f xs ++ rest) ≡ xs
  many_back [] rest a = refl
  many_back (x ∷ xs) rest a =
      let e = append_assoc (f x) (each f xs) rest in
      rw (e, a.0.back (each f xs ++ rest), drop_at (f x) (each f xs ++ rest) size a.0.whole, many_back xs rest a.1)

  -- READ, THEN WRITTEN: where each thing that is read and of which P holds has the words that it is read from
  module _ (P : A → Type 0) (held : (ws : List ℕ) → size ≤ length ws → P (g ws) → f (g ws) ≡ take size ws) where
    pub many_held : (n : ℕ) (ws : List ℕ) → size * n ≤ length ws → All P (many_in size g n ws) → each f (many_in size g n ws) ≡ take (size * n) ws
    many_held zero ws h a = rw mul-zero
    many_held (suc n) ws h a =
        let m : size + size * n ≤ length ws = rw (← next_place size n) h in
        rw (next_place, take-add size (size * n) ws, held ws (omega arith) a.0, many_held n (drop size ws) (rw length-drop (omega arith)) a.1)
