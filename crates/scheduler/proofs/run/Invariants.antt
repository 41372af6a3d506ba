-- `scheduler::run` meets its contract. The loop's invariant: the state ticks, and it and the answers are those behind i ticks (proofs/Runs.antt).
use mathlib.Core.Path.{◌≡◌}
use Rattle.scheduler.specs.Run.{answers_in, state_after_ticks}
use Rattle.scheduler.specs.Moves.{Ticking}
use Rattle.scheduler.proofs.run.Given as goal

abbrev pub invariant-loop-i : goal.invariant-loop-i
invariant-loop-i l = record {
  ticking : Ticking l.s;
  state : l.s ≡ state_after_ticks l.i l.initial.s;
  answers : l.answers ≡ answers_in l.i l.initial.s;
}
