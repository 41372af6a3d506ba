-- What `size_of` keeps: the size so far is what the bytes before the next server take, and no more than so many full servers would take.
use Rattle.std.specs.Prelude.{◌≡◌, ◌+◌, ◌*◌, ◌≤◌, length, take}
use Rattle.small.specs.Small.{each}
use Rattle.table.specs.Limits.{entries}
use Rattle.setup.specs.Layout.{server_bytes}
use Rattle.setup.specs.Read.{task_size, head_size}
use Rattle.setup.proofs.size_of.Given as goal

abbrev pub invariant-loop-s : goal.invariant-loop-s
invariant-loop-s l =
    (l.size ≡ 4 + length (each server_bytes (take l.s-index l.s-items))) × (l.size ≤ 4 + (head_size + task_size * entries) * l.s-index)
