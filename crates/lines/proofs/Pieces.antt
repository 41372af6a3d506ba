-- Laws of texts that are put into a buffer piece by piece, each behind the last, and byte by byte. Assumes nothing.
use mathlib.Core.Path.{◌≡◌, sym, ap, ◌∙◌}
use mathlib.Core.Bool.{Bool, true, not}
use mathlib.Core.List.{List, [], ◌∷◌, ◌++◌, append_assoc}
use Prim.Native.Nat.{ℕ, suc, ◌+◌, ◌-◌, ◌/◌, ◌%◌, ◌≤◌, ◌<◌}
use native.Mathlib.Nat.{add_assoc}
use native.Mathlib.Omega.{arith}
use borrow.Rule.Slice.PartMut.{put_mid}
use borrow.Author.Tests.{leb-false, not-true}
use lib.Dec.{leb}
use lib.ListN.{length, take, drop, set, length-append, length-set}
use lib.Seq.{length-take-le, take-set-le, take_at, drop_at, drop-drop, set_split}
use Rattle.field.specs.Field.{over}
use Rattle.field.proofs.Fields.{over_fits, over_length, over_nil, over_over, over_before}
use Rattle.lines.specs.Decimal.{digit}
use Rattle.lines.proofs.DecimalLaws.{lowest, lowest_length}

-- PIECE BEHIND PIECE

-- what each piece ensures: the text xs stands from `at` on in what the buffer is `after`, and r is the place behind it
abbrev pub Puts : ℕ → List ℕ → List ℕ → ℕ → List ℕ → Type 0
Puts at xs buf r after = (r ≡ at + length xs) × (after ≡ over at xs buf)

-- a piece leaves the buffer's length
pub puts_length : (at : ℕ) (xs buf : List ℕ) {r : ℕ} {after : List ℕ} → Puts at xs buf r after → length after ≡ length buf
puts_length at xs buf p = rw p.1 (over_length at xs buf)

-- a piece behind another is the two as one; and so for three
pub puts_two : (at : ℕ) (xs ys buf : List ℕ) {p r : ℕ} {mid after : List ℕ} → at + (length xs + length ys) ≤ length buf
    → Puts at xs buf p mid
    → Puts p ys mid r after
    → Puts at (xs ++ ys) buf r after
puts_two at xs ys buf h one two = (
  rw (two.0, one.0, length-append) (add_assoc at (length xs) (length ys)),
  rw (two.1, one.1, one.0) (over_over at xs ys buf (omega arith)),
)

pub puts_three : (at : ℕ) (xs ys zs buf : List ℕ) {p q r : ℕ} {mid then after : List ℕ} → at + (length xs + (length ys + length zs)) ≤ length buf
    → Puts at xs buf p mid
    → Puts p ys mid q then
    → Puts q zs then r after
    → Puts at (xs ++ (ys ++ zs)) buf r after
puts_three at xs ys zs buf {p = p} {mid = mid} h one two three =
    let l = puts_length at xs buf one in
    let k : at + (length xs + length (ys ++ zs)) ≤ length buf = rw length-append h in
    puts_two at xs (ys ++ zs) buf k one (puts_two p ys zs mid (omega arith) two three)

-- WHERE THERE IS NO ROOM: f is the answer of `fits` for n bytes
pub no_room_lem : (at n : ℕ) (buf : List ℕ) (f : Bool) → f ≡ leb (at + n) (length buf) → not f ≡ true → length buf < at + n
no_room_lem at n buf f answer h = leb-false (at + n) (length buf) (sym answer ∙ not-true f h)

-- INTO A PART OF IT

-- a part that is copied over is what is put there
pub put_mid_over : (at k : ℕ) (xs buf : List ℕ) {ys : List ℕ} → ys ≡ xs → k ≡ length xs → at + length xs ≤ length buf → put_mid at k buf ys ≡ over at xs buf
put_mid_over at k xs buf e f h = rw (over_fits at xs buf h, e, f, drop-drop)

-- BEHIND A TEXT that stands at the buffer's start: what is put there makes the text longer
pub text_more : (at : ℕ) (xs buf : List ℕ) {text after : List ℕ} {r : ℕ} → take at buf ≡ text → at ≤ length buf → length text + length xs ≤ length buf
    → r ≡ at + length xs
    → after ≡ over at xs buf
    → take r after ≡ text ++ xs
text_more at xs buf e b h p q =
    let k : at + length xs ≤ length buf = omega (arith, rw (← e) at h, length-take-le at buf b) in
    let t = take at buf ++ xs in
    let l : length t ≡ at + length xs = rw (length-append, length-take-le at buf b) in
    let o = over_fits at xs buf k ∙ sym (append_assoc (take at buf) xs (drop (at + length xs) buf)) in
    rw (p, q, o, ← e) (take_at t (drop (at + length xs) buf) (at + length xs) l)

-- BYTE BY BYTE

-- a store is a piece of one byte
pub over_byte : (at x : ℕ) (buf : List ℕ) → at < length buf → set buf at x ≡ over at (x ∷ []) buf
over_byte at x buf h =
    let k : at + 1 ≤ length buf = omega arith in
    ap (λ (ys : List ℕ). set ys at x) (sym (over_nil (at + 1) buf k)) ∙ over_before at x [] buf (omega arith)

-- and two are one of two
pub over_bytes : (at x y : ℕ) (buf : List ℕ) → at + 2 ≤ length buf → set (set buf at x) (at + 1) y ≡ over at (x ∷ y ∷ []) buf
over_bytes at x y buf h =
    let k : at + 1 < length (set buf at x) = rw length-set (omega arith) in
    let one = over_byte at x buf (omega arith) in
    let two = over_over at (x ∷ []) (y ∷ []) buf (omega arith) in
    over_byte (at + 1) y (set buf at x) k ∙ ap (λ (ys : List ℕ). over (at + 1) (y ∷ []) ys) one ∙ two

-- THE LAST BYTE FIRST, and the rest before it
pub over_last : (at x : ℕ) (xs buf : List ℕ) → at + length xs < length buf → over at (xs ++ (x ∷ [])) buf ≡ over at xs (set buf (at + length xs) x)
over_last at x xs buf h =
    let i = at + length xs in
    let l : length (xs ++ (x ∷ [])) ≡ suc (length xs) = rw length-append (omega arith) in
    let f : at + length (xs ++ (x ∷ [])) ≤ length buf = rw l (omega arith) in
    let g : at + length xs ≤ length (set buf i x) = rw length-set (omega arith) in
    let k : at + suc (length xs) ≡ suc i = omega arith in
    let t = drop_at (take i buf) (x ∷ drop (suc i) buf) i (length-take-le i buf (omega arith)) in
    let d : drop i (set buf i x) ≡ x ∷ drop (suc i) buf = rw (set_split buf i x h) t in
    rw (over_fits at (xs ++ (x ∷ [])) buf f, over_fits at xs (set buf i x) g, take-set-le at buf i x (omega arith), d, l, k, append_assoc)

-- of the digits from the last on: those up to the place i are left, and those up to the place before it once the last of them is put there
pub number_step : (at i n : ℕ) (buf : List ℕ) → at < i → i ≤ length buf
    → over at (lowest (i - at) n) buf ≡ over at (lowest (i - 1 - at) (n / 10)) (set buf (i - 1) (digit (n % 10)))
number_step at i n buf h k =
    let j = i - 1 - at in
    let ds = lowest j (n / 10) in
    let d = digit (n % 10) in
    let m : i - at ≡ suc j = omega arith in
    let e : at + length ds ≡ i - 1 = omega (arith, lowest_length j (n / 10)) in
    let s : over at (ds ++ (d ∷ [])) buf ≡ over at ds (set buf (at + length ds) d) = over_last at d ds buf (omega arith) in
    rw m (rw e at s)
