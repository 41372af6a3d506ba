-- `load_of` meets its contract: a sound state has few servers, and each few tasks. Assumes nothing.
use Rattle.std.proofs.Common.{arith, ◌≡◌}
use lib.ListN.{length}
use Rattle.table.specs.Limits.{entries}
use Rattle.table.proofs.Sizes.{past_server}
use Rattle.port.proofs.Sizing.{state_in_full}
use Rattle.port.proofs.Ranges.{place_few, tasks_few}
use Rattle.port.proofs.load_of.Goals as goal

pub bounds-state-i : goal.bounds-state-i
bounds-state-i c = let h = c.in_ok-i.ensures in omega (arith, place_few c.held-state.result c.args.server h.refusal, h.place)

pub bounds-state-j : goal.bounds-state-j
bounds-state-j c = let h = c.in_ok-i.ensures in
    let few = tasks_few c.held-state.result c.args.server h.refusal past_server (let z : length c.held-state.result.table.servers ≡ entries = rw c.held-state.ensures (state_in_full c.args.s.now).table.count in z) in
    omega (arith, rw h.place at c.if-state-i.false, few)
