-- What a writer answers and what the buffer then holds: refused, no byte is changed; else its bytes stand first and every other is as it was.
use Rattle.std.specs.Prelude.{List, ℕ, eqb, length, Result, Ok, Err}
use Rattle.small.specs.Small.{pick}
use Rattle.refusal.specs.Refusal.{none}
use Rattle.refusal.specs.Reason.{refusal_by}
use Rattle.refusal.specs.declared.Refusal.{Refusal}
use Rattle.refusal.specs.declared.Reason.{Reason}
use Rattle.field.specs.Field.{over}

-- The answer of a writer: how many bytes it wrote. A refused writer has written none.
pub record Written : Type 0 where
  pub refusal : Refusal
  pub length : ℕ

abbrev pub written_with : Refusal → ℕ → Written
written_with r n = record { refusal = r; length = n }

-- what a writer's outcome is as an answer
abbrev pub written_by : Result ℕ Reason → Written
written_by (Ok n) = written_with none n
written_by (Err r) = written_with (refusal_by r) 0

-- how many bytes it wrote, and zero where it is refused
abbrev pub written : Refusal → List ℕ → Written
written r bytes = pick (eqb r.number 0) (written_with none (length bytes)) (written_with r 0)

-- "Writers leave bytes past the output unchanged", and a refusal changes no byte
abbrev pub buffer_after : Refusal → List ℕ → List ℕ → List ℕ
buffer_after r bytes buf = pick (eqb r.number 0) (over 0 bytes buf) buf
