-- `scheduler::checked` meets its contract: what every state has is what the code knows of one that it reads.
use native.Mathlib.Omega.{arith}
use Rattle.table.proofs.Sizes.{table_sized}
use Rattle.state.specs.State.{zero_entry}
use Rattle.state.proofs.Sizes.{loads_full}
use Rattle.scheduler.proofs.checked.Goals as goal

pub returns-clause-sized : goal.returns-clause-sized
returns-clause-sized c =
    let s = c.args.s.now in
    let k = c.type_inv.s in
    record { table = table_sized s.table _ k.1.0; servers = k.0.1.0.1; loads = λ i h. loads_full s.entries _ i zero_entry (omega (arith, k.0.1.0.1)) k.0.1.1 }
