-- `budget_of` meets its contract: a sound state has few servers. Assumes nothing.
use Rattle.std.proofs.Common.{arith}
use Rattle.port.proofs.Ranges.{place_few}
use Rattle.port.proofs.budget_of.Goals as goal

pub bounds-state-i : goal.bounds-state-i
bounds-state-i c = let h = c.in_ok-i.ensures in omega (arith, place_few c.held-state.result c.args.server h.refusal, h.place)
