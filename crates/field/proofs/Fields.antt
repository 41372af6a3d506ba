-- Laws of bytes, of big-endian fields of any width w, and of writing over a buffer. Assumes nothing.
use mathlib.Core.Path.{◌≡◌, refl, sym, ap, ◌∙◌}
use mathlib.Core.Bool.{Bool, true, false}
use mathlib.Core.List.{List, [], ◌∷◌, ◌++◌, append_assoc}
use Prim.Native.Nat.{ℕ, zero, suc, ◌+◌, ◌*◌, ◌/◌, ◌^◌, ◌≤◌, ◌<◌}
use native.Mathlib.Nat.{add-zero, zero-add, add_assoc, mod-lt, one-le-pow, pow-succ', min-eq_left, min-eq_right, sub_self}
use native.Mathlib.Numerals.{add-one}
use native.Mathlib.Omega.{arith}
use lib.Arith.{digits_lt}
use lib.Dec.{leb}
use lib.ListN.{set, length, take, drop, length-append, length-drop, take-append-drop, drop_of_length-le, get_or-eq_default}
use lib.Seq.{sets, sets-eq, take-set-lt, length-take-le, take_at, drop_at, drop-drop, get_or-drop}
use borrow.Author.Tests.{le-leb, lt-leb, leb-true, leb-false}
use Rattle.std.specs.List.{slice_range}
use Rattle.std.specs.Prelude.{min}
use Rattle.std.proofs.lemmas.List.{take_all, set-append_left, take_more_set}
use Rattle.small.specs.Small.{pick}
use Rattle.field.specs.Field.{byte_of, field_of, big, over}
use Rattle.field.specs.Bytes.{Bytes}

-- BYTES

pub bytes_append : (xs ys : List ℕ) → Bytes xs → Bytes ys → Bytes (xs ++ ys)
bytes_append [] ys p q = q
bytes_append (x ∷ xs) ys p q = (p.0, bytes_append xs ys p.1 q)

pub bytes_take : (n : ℕ) (xs : List ℕ) → Bytes xs → Bytes (take n xs)
bytes_take zero xs p = tt
bytes_take (suc n) [] p = tt
bytes_take (suc n) (x ∷ xs) p = (p.0, bytes_take n xs p.1)

pub bytes_drop : (n : ℕ) (xs : List ℕ) → Bytes xs → Bytes (drop n xs)
bytes_drop zero xs p = p
bytes_drop (suc n) [] p = tt
bytes_drop (suc n) (x ∷ xs) p = bytes_drop n xs p.1

byte_below : (xs : List ℕ) → Bytes xs → byte_of 0 xs < 256
byte_below [] p = omega arith
byte_below (x ∷ xs) p = p.0

-- FIELDS

pub positive : (w : ℕ) → 0 < 256 ^ w
positive w = one-le-pow w 256 (omega arith)

pub length_big : (w n : ℕ) → length (big w n) ≡ w
length_big zero n = refl
length_big (suc w) n = ap suc (length_big w n)

pub big_bytes : (w n : ℕ) → Bytes (big w n)
big_bytes zero n = tt
big_bytes (suc w) n = (mod-lt (n / 256 ^ w) (omega arith), big_bytes w n)

pub field_below : (w : ℕ) (bs : List ℕ) → Bytes bs → field_of w bs < 256 ^ w
field_below zero bs p = positive 0
field_below (suc w) bs p = rw pow-succ' (digits_lt (byte_below bs p) (field_below w (drop 1 bs) (bytes_drop 1 bs p)))

-- what stands past the end reads as 0
pub byte_past : (at k : ℕ) (bs : List ℕ) → length bs ≤ at + k → byte_of k (drop at bs) ≡ 0
byte_past at k bs h = get_or-drop at bs k 0 ∙ get_or-eq_default bs 0 h

-- a field's first byte, and the field of the rest
pub field_step : (w k j : ℕ) (bs : List ℕ) → j ≡ suc k → field_of (suc w) (drop k bs) ≡ byte_of k bs * 256 ^ w + field_of w (drop j bs)
field_step w k j bs e = rw (e, get_or-drop, drop-drop, add-zero, add-one)

-- a field's bytes but the last are a field, and the last stands behind them
pub field_more : (w : ℕ) (bs : List ℕ) → field_of (suc w) bs ≡ field_of w bs * 256 + byte_of w bs
field_more zero bs = omega arith
field_more (suc w) bs =
    let e : byte_of w (drop 1 bs) ≡ byte_of (suc w) bs = rw get_or-drop (ap (λ (k : ℕ). byte_of k bs) (omega arith)) in
    let m : byte_of 0 bs * 256 ^ suc w ≡ byte_of 0 bs * 256 ^ w * 256 = rw pow-succ' (mul_swap (byte_of 0 bs) (256 ^ w)) in
    omega (arith, field_more w (drop 1 bs), e, m)
  where
    mul_swap : (a b : ℕ) → a * (256 * b) ≡ a * b * 256
    mul_swap a b = grind arith

-- what a slice has from a place on, which may be past its end
pub rest_from : (at : ℕ) (bs : List ℕ) → slice_range bs (min at (length bs)) (length bs) ≡ drop at bs
rest_from at bs = go (leb at (length bs)) refl
  where
    go : (b : Bool) → leb at (length bs) ≡ b → slice_range bs (min at (length bs)) (length bs) ≡ drop at bs
    go true e =
        let h : at ≤ length bs = leb-true _ _ e in
        rw (min-eq_left h) (take_all _ _ (rw length-drop (omega arith)))
    go false e =
        let h : length bs ≤ at = omega (arith, leb-false at (length bs) e) in
        rw (min-eq_right h, sub_self) (sym (drop_of_length-le bs h))

-- the bytes of a byte are itself
pub big_byte : (n : ℕ) → n < 256 → big 1 n ≡ n ∷ []
big_byte n h = ap (λ b. b ∷ []) (omega arith)

-- OVER

pub over_fits : (at : ℕ) (xs buf : List ℕ) → at + length xs ≤ length buf → over at xs buf ≡ take at buf ++ (xs ++ drop (at + length xs) buf)
unfolding over
over_fits at xs buf h = rw (le-leb _ _ h)

-- where it does not fit, nothing is written
pub over_past : (at : ℕ) (xs buf : List ℕ) → length buf < at + length xs → over at xs buf ≡ buf
unfolding over
over_past at xs buf h = rw (lt-leb _ _ h)

pub over_length : (at : ℕ) (xs buf : List ℕ) → length (over at xs buf) ≡ length buf
unfolding over
over_length at xs buf = go (leb (at + length xs) (length buf)) refl
  where
    go : (b : Bool) → leb (at + length xs) (length buf) ≡ b → length (pick b (take at buf ++ (xs ++ drop (at + length xs) buf)) buf) ≡ length buf
    go true e =
        let h : at + length xs ≤ length buf = leb-true _ _ e in
        let l : at ≤ length buf = omega arith in
        simp (length-append, length-take-le at buf l, length-drop) (omega arith)
    go false e = refl

pub over_nil : (at : ℕ) (buf : List ℕ) → at ≤ length buf → over at [] buf ≡ buf
over_nil at buf h = rw (over_fits at [] buf (omega arith), add-zero) (take-append-drop at buf)

pub over_start : (xs buf : List ℕ) → length xs ≤ length buf → over 0 xs buf ≡ xs ++ drop (length xs) buf
over_start xs buf h = rw (over_fits 0 xs buf (omega arith), zero-add)

pub over_over : (at : ℕ) (xs ys buf : List ℕ) → at + length xs + length ys ≤ length buf → over (at + length xs) ys (over at xs buf) ≡ over at (xs ++ ys) buf
over_over at xs ys buf h =
    let p = take at buf ++ xs in
    let rest = drop (at + length xs) buf in
    let a : at ≤ length buf = omega arith in
    let l : length p ≡ at + length xs = simp (length-append, length-take-le at buf a) in
    let e : over at xs buf ≡ p ++ rest = over_fits at xs buf (omega arith) ∙ sym (append_assoc (take at buf) xs rest) in
    let k : at + length xs + length ys ≤ length (p ++ rest) = rw (← e, over_length) h in
    let m : at + length (xs ++ ys) ≤ length buf = rw length-append (omega arith) in
    rw (
      e,
      over_fits (at + length xs) ys (p ++ rest) k,
      over_fits at (xs ++ ys) buf m,
      take_at p rest (at + length xs) l,
      ← drop-drop (length ys) (at + length xs) (p ++ rest),
      drop_at p rest (at + length xs) l,
    )
    (simp (drop-drop, length-append, add_assoc, append_assoc))

-- stores from a place on, one behind the other
pub over_sets : (at : ℕ) (xs buf : List ℕ) → at + length xs ≤ length buf → sets buf at xs ≡ over at xs buf
over_sets at xs buf h = sets-eq xs buf at h ∙ append_assoc (take at buf) xs _ ∙ sym (over_fits at xs buf h)

-- a store right before what was written last
pub over_before : (at x : ℕ) (xs buf : List ℕ) → at + 1 + length xs ≤ length buf → set (over (at + 1) xs buf) at x ≡ over at (x ∷ xs) buf
over_before at x xs buf h =
    let k : at + 1 ≤ length buf = omega arith in
    let l : at < length (take (at + 1) buf) = rw length-take-le (omega arith) in
    let e : at + length (x ∷ xs) ≡ at + 1 + length xs = omega arith in
    rw (
      over_fits (at + 1) xs buf h,
      set-append_left (take (at + 1) buf) (xs ++ drop (at + 1 + length xs) buf) at x l,
      over_fits at (x ∷ xs) buf (omega arith),
      e,
      ← take-set-lt (at + 1) buf at x (omega arith),
      take_more_set buf at x (omega arith),
      append_assoc,
    )
