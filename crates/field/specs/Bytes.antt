-- A list of bytes: each element is below 256.
use Rattle.std.specs.Prelude.{List, [], ◌∷◌, ℕ, ◌<◌}

abbrev pub Bytes : List ℕ → Type 0
Bytes [] = Unit
Bytes (b ∷ bs) = (b < 256) × Bytes bs
