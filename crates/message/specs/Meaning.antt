-- The words that the promises of messages are stated with.
use Rattle.std.specs.Prelude.{List, ℕ, ◌<◌, length}
use Rattle.field.specs.Write.{Written, written, buffer_after}
use Rattle.message.specs.Message.{raw_bytes, write_refusal}
use Rattle.message.specs.declared.Message.{Message}
use Rattle.message.specs.declared.Message.TheVariants.{Run, Arrival}

-- "A number of ticks to run, 0 to 65,535"; a server and a task are a byte each
abbrev pub Fits : Message → Type 0
Fits (Run n) = n < 65536
Fits (Arrival s t) = (s < 256) × (t < 256)

-- what the writer answers, and what a buffer then holds: the words of its contract
abbrev pub write_of : ℕ → ℕ → ℕ → List ℕ → Written
write_of kind a b buf = written (write_refusal kind (length buf)) (raw_bytes kind a b)

abbrev pub written_to : ℕ → ℕ → ℕ → List ℕ → List ℕ
written_to kind a b buf = buffer_after (write_refusal kind (length buf)) (raw_bytes kind a b) buf
