-- `scheduler::handle_refills` meets its contract. The loop's invariant: what is left to do of the entries and of the queue comes to what was to do of those at
-- first (proofs/Refilling.antt), and the table stays.
use mathlib.Core.Path.{◌≡◌}
use Rattle.scheduler.proofs.Refilling.{Refilling, left_count}
use Rattle.scheduler.proofs.handle_refills.Given as goal

abbrev pub invariant-loop-s : goal.invariant-loop-s
invariant-loop-s l = record {
  table : l.s.table ≡ l.initial.s.table;
  refilling : Refilling l.initial.s.table l.initial.s.entries l.initial.s.refills l.s.entries l.s.refills l.due;
}

abbrev pub decreases-loop-s : goal.decreases-loop-s
decreases-loop-s l =
    left_count l.s.refills
