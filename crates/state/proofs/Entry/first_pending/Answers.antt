-- `first_pending` of an entry meets its contract: `position` gives the definition's place (proofs/Choosing.antt).
use mathlib.Core.Path.{◌≡◌, ◌∙◌}
use native.Mathlib.Omega.{arith}
use lib.ListN.{length}
use Rattle.std.proofs.Common.{rules, tests}
use Rattle.std.proofs.lemmas.Iterator.{YieldsList-from_slice}
use Rattle.std.proofs.lemmas.Iterator.Search.{position_from_yields_List}
use Rattle.table.specs.Limits.{entries}
use Rattle.state.specs.Choice.{pendingb}
use Rattle.state.proofs.Choosing.{first_placed}
use Rattle.state.proofs.Entry.first_pending.Goals as goal

pub returns : goal.returns
returns c =
    let full : length c.args.self.now.loads ≡ entries = omega arith in
    position_from_yields_List pendingb _ _ _ c.position.ensures.ran (YieldsList-from_slice c.args.self.now.loads cc) (λ x b q k. search (rules, tests)) ∙ first_placed c.args.self.now.loads full
