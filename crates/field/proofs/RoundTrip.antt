-- BOTH ROUND TRIPS of a big-endian field, over any width w: one that is written reads back, and one that is read writes the same bytes. Assumes nothing.
use mathlib.Core.Path.{◌≡◌, refl, sym, ◌∙◌}
use mathlib.Core.List.{List, [], ◌∷◌, ◌++◌}
use Prim.Native.Nat.{ℕ, zero, suc, ◌+◌, ◌*◌, ◌%◌, ◌^◌, ◌≤◌, ◌<◌}
use native.Mathlib.Nat.{mod-lt, mod-eq_of_lt, pow-succ', mul_assoc, mul-add-div_right, mul-add-mod_self_right, le_of_suc-le-suc, not-suc-le-zero}
use native.Mathlib.Omega.{arith}
use lib.Arith.{digits_div, mod-mul}
use lib.ListN.{length, take}
use Rattle.field.specs.Field.{field_of, big}
use Rattle.field.specs.Bytes.{Bytes}
use Rattle.field.proofs.Fields.{positive, field_below}

-- of a number that has more bytes, w bytes hold the lowest
field_lowest : (w n : ℕ) (rest : List ℕ) → field_of w (big w n ++ rest) ≡ n % 256 ^ w
field_lowest zero n rest = omega (arith, mod-lt n (positive 0))
field_lowest (suc w) n rest = rw (pow-succ', mod-mul n {m = 256} {c = 256 ^ w} (omega arith) (positive w), field_lowest w n rest)

-- WRITTEN, THEN READ: the number
pub field_big : (w n : ℕ) → n < 256 ^ w → (rest : List ℕ) → field_of w (big w n ++ rest) ≡ n
field_big w n h rest = field_lowest w n rest ∙ mod-eq_of_lt h

-- bytes above the lowest w are not written
big_lowest : (w q n : ℕ) → big w (q * 256 ^ w + n) ≡ big w n
big_lowest zero q n = refl
big_lowest (suc w) q n =
    let e : q * 256 ^ suc w ≡ q * 256 * 256 ^ w = rw pow-succ' (sym (mul_assoc q 256 (256 ^ w))) in
    rw (e, mul-add-div_right (positive w), mul-add-mod_self_right, big_lowest w (q * 256) n)

-- READ, THEN WRITTEN: the bytes
pub big_field : (w : ℕ) (bs : List ℕ) → Bytes bs → w ≤ length bs → big w (field_of w bs) ≡ take w bs
big_field zero bs p h = refl
big_field (suc w) [] p h = absurd (not-suc-le-zero h)
big_field (suc w) (b ∷ bs) p h =
    rw (digits_div b (field_below w bs p.1), mod-eq_of_lt p.0, big_lowest w b (field_of w bs), big_field w bs p.1 (le_of_suc-le-suc h))
