-- What `put` keeps: the lowest bytes stand behind the place.
use Rattle.std.specs.Prelude.{◌≡◌, ◌^◌, ◌/◌, ◌+◌, ◌-◌}
use Rattle.field.specs.Field.{big, over}
use Rattle.field.proofs.put.Given as goal

abbrev pub invariant-loop-k : goal.invariant-loop-k
invariant-loop-k g l = let n = g.T.Field.value l.fn.n in (l.left ≡ n / 256 ^ l.k) × (l.out ≡ over (l.fn.at + (l.k-end - l.k)) (big l.k n) l.fn.out)
