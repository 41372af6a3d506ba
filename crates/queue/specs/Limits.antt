-- The limits that belong to the queue, named once for the definitions; `impl Queue` names them once for the code.
use Rattle.std.specs.Prelude.{ℕ}

-- the largest gap
abbrev pub max_gap : ℕ
max_gap = 65535

-- "a row of at most 32 cells"
abbrev pub cell_count : ℕ
cell_count = 32

-- the longest distance
abbrev pub longest : ℕ
longest = 1000000

-- the id of a filler
abbrev pub filler : ℕ
filler = 255
