-- `scheduler::one_tick` meets its contract. The loop's invariant: the first i entries have been handled, each with its server, the others are as they were, and so
-- are the table and the replenishments (proofs/TickParts.antt).
use mathlib.Core.Path.{◌≡◌}
use Rattle.scheduler.proofs.TickParts.{Serving}
use Rattle.scheduler.proofs.one_tick.Given as goal

abbrev pub invariant-loop-i : goal.invariant-loop-i
invariant-loop-i l = record {
  serving : Serving l.initial.s.table l.initial.s.entries l.initial.handled l.s.entries l.handled l.i;
  table : l.s.table ≡ l.initial.s.table;
  refills : l.s.refills ≡ l.initial.s.refills;
}
