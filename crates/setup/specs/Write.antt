-- The setup writer: 31 for a table that is not sound, 32 last for a buffer of n bytes that is too short.
use Rattle.std.specs.Prelude.{not, List, [], ◌∷◌, ℕ, ltb, length}
use Rattle.refusal.specs.Numbers.{unsound, buffer_short}
use Rattle.refusal.specs.Refusal.{Check, check, first_of}
use Rattle.refusal.specs.declared.Refusal.{Refusal}
use Rattle.field.specs.Write.{Written, buffer_after, written}
use Rattle.table.specs.Sound.{tableb}
use Rattle.table.specs.declared.Table.{Table}
use Rattle.setup.specs.Layout.{bytes_of}

abbrev pub write_checks : ℕ → ℕ → Table → ℕ → List Check
write_checks D W t n = check unsound (not (tableb D W t)) ∷ check buffer_short (ltb n (length (bytes_of t))) ∷ []

abbrev pub write_refusal : ℕ → ℕ → Table → ℕ → Refusal
write_refusal D W t n = first_of (write_checks D W t n)

-- what the writer answers
abbrev pub write_answer : ℕ → ℕ → Table → ℕ → Written
write_answer D W t n = written (write_refusal D W t n) (bytes_of t)

-- what a buffer then holds
abbrev pub written_to : ℕ → ℕ → Table → List ℕ → List ℕ
written_to D W t buf = buffer_after (write_refusal D W t (length buf)) (bytes_of t) buf
