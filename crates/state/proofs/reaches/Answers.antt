use mathlib.Core.Path.{ap}
use mathlib.Core.List.{map}
use Prim.Native.Nat.{◌+◌}
use native.Mathlib.Omega.{arith}
use lib.ListN.{drop, length-set, drop_of_length-le}
use Rattle.small.proofs.Lists.{drop_step, built_more, built_end}
use Rattle.queue.specs.Holds.{in_ticks}
use Rattle.queue.proofs.Holding.{ticks_length, ticks_set}
use Rattle.state.proofs.reaches.Goals as goal

pub loop-i-preserved : goal.loop-i-preserved
loop-i-preserved g c =
    let k = c.loop-i in
    let xs = c.args.timed.now in
    let reach = g.T.Timed.reach in
    let n = ticks_length k.out in
    let e = rw (drop_step xs k.i c.index-timed-i.result (omega arith), ← c.reach.ensures) at k.invariant.1 in
    (rw length-set k.invariant.0, rw ticks_set (built_more (in_ticks k.out) k.i c.reach.result.0 (map reach (drop (k.i + 1) xs)) (map reach xs) (omega arith) e))

pub returns : goal.returns
returns g c =
    let k = c.loop-i in
    let xs = c.args.timed.now in
    let reach = g.T.Timed.reach in
    let n = ticks_length k.out in
    built_end (in_ticks k.out) k.i (map reach (drop k.i xs)) (map reach xs) (omega arith) (ap (map reach) (drop_of_length-le xs {i = k.i} (omega arith))) k.invariant.1
