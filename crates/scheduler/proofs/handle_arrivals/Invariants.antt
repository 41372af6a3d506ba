-- `scheduler::handle_arrivals` meets its contract. The loop's invariant: what is left to do comes to what was to do at first, and the count so far and what is
-- left are together what was due. Each turn is one arrival at one of the eight tasks, and leaves one less, of at most 8 (proofs/Arrivals.antt).
use mathlib.Core.Path.{◌≡◌}
use Prim.Native.Nat.{◌+◌}
use Rattle.scheduler.specs.Moves.{Clocked, due_turn}
use Rattle.scheduler.proofs.handle_arrivals.Given as goal

abbrev pub invariant-loop-e : goal.invariant-loop-e
invariant-loop-e l = record {
  clocked : Clocked l.server l.e;
  entry : (due_turn l.server l.initial.e).entry ≡ (due_turn l.server l.e).entry;
  handled : l.arrived + (due_turn l.server l.e).handled ≡ (due_turn l.server l.initial.e).handled;
}

abbrev pub decreases-loop-e : goal.decreases-loop-e
decreases-loop-e l =
    (due_turn l.server l.e).handled
