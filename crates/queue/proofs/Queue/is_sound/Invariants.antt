-- `queue::Queue::is_sound` meets its contract: what it keeps of the cells passed is `Scanned` of them, the flag is what the test of the normal form goes on with,
-- and the two sums are the same where the tail is zero (`sound_scan`).
use mathlib.Core.Path.{◌≡◌}
use mathlib.Core.Bool.{false}
use Prim.Native.Nat.{◌*◌, ◌≤◌}
use lib.ListN.{take, drop}
use Rattle.queue.specs.Limits.{max_gap, filler}
use Rattle.queue.specs.Moves.{normb}
use Rattle.queue.proofs.Scan.{Scanned}
use Rattle.queue.proofs.Queue.is_sound.Given as goal

abbrev pub invariant-loop-c : goal.invariant-loop-c
invariant-loop-c l =
    (l.at ≤ max_gap * l.c-index) × (l.ids ≤ filler * l.c-index) × Scanned (take l.c-index l.c-items) l.seen l.at l.ids
    × (normb max_gap false l.c-items ≡ normb max_gap l.filler (drop l.c-index l.c-items))
