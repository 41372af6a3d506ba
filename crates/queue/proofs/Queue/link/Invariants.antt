-- `queue::Queue::link` meets its contract: at each turn the cells of the chain that are left, stored from here on, give the whole.
use mathlib.Core.Path.{◌≡◌}
use Prim.Native.Nat.{◌-◌}
use lib.ListN.{length}
use lib.Seq.{sets}
use Rattle.queue.specs.Limits.{max_gap}
use Rattle.queue.specs.Moves.{links}
use Rattle.queue.proofs.Queue.link.Given as goal

abbrev pub invariant-loop-i : goal.invariant-loop-i
invariant-loop-i l =
    (l.self.len ≡ l.initial.self.len) × (length l.self.cells ≡ length l.initial.self.cells)
    × (sets l.self.cells l.i (links max_gap (l.end - l.i) l.chain.id l.gap) ≡ sets l.initial.self.cells l.at (links max_gap (l.end - l.at) l.chain.id l.initial.gap))
