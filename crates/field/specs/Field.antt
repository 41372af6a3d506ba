-- "All numbers big-endian": fields of any width, read from bytes and written over bytes.
use Rattle.std.specs.Prelude.{List, [], ◌∷◌, ◌++◌, ℕ, zero, suc, ◌+◌, ◌*◌, ◌/◌, ◌%◌, ◌^◌, leb, length, take, drop, get_or}
use Rattle.small.specs.Small.{pick}

-- the byte at k; what stands past the end reads as 0
abbrev pub byte_of : ℕ → List ℕ → ℕ
byte_of k bs = get_or bs k 0

-- the number in the first w bytes, the highest first
abbrev pub field_of : ℕ → List ℕ → ℕ
field_of zero bs = 0
field_of (suc w) bs = byte_of 0 bs * 256 ^ w + field_of w (drop 1 bs)

-- n in w bytes, the highest first
abbrev pub big : ℕ → ℕ → List ℕ
big zero n = []
big (suc w) n = n / 256 ^ w % 256 ∷ big w n

-- bytes xs written over those of a buffer from a place on; where they do not fit, nothing is written
unfoldable pub over : ℕ → List ℕ → List ℕ → List ℕ
over at xs buf = pick (leb (at + length xs) (length buf)) (take at buf ++ (xs ++ drop (at + length xs) buf)) buf
