-- What `read` keeps: the bytes read are a field of so many bytes.
use Rattle.std.specs.Prelude.{◌≡◌, ◌^◌, ◌<◌, drop}
use Rattle.field.specs.Field.{field_of}
use Rattle.field.proofs.read.Given as goal

abbrev pub invariant-loop-k : goal.invariant-loop-k
invariant-loop-k g l = (l.n ≡ field_of l.k (drop l.fn.at l.s)) × (l.n < 256 ^ l.k)
