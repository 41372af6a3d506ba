-- `chosen` of a state meets its contract: `position` gives the definition's place (proofs/Choosing.antt).
use mathlib.Core.Path.{◌≡◌, ◌∙◌}
use native.Mathlib.Omega.{arith}
use lib.ListN.{length}
use Rattle.std.specs.List.{zip}
use Rattle.std.proofs.Common.{rules, tests}
use Rattle.std.proofs.lemmas.Iterator.{YieldsList-from_slice, YieldsList-from_zip}
use Rattle.std.proofs.lemmas.Iterator.Search.{position_from_yields_List}
use Rattle.std.proofs.lemmas.Slice.Zip.{length-zip}
use Rattle.table.specs.Limits.{entries}
use Rattle.state.specs.Choice.{chosen_of}
use Rattle.state.proofs.Choosing.{pair_ready, chosen_placed}
use Rattle.state.proofs.State.chosen.Goals as goal

pub returns : goal.returns
unfolding chosen_of
returns c =
    let ss = c.args.self.now.table.servers in
    let es = c.args.self.now.entries in
    let full : length (zip ss es) ≡ entries = omega (arith, length-zip ss es) in
    position_from_yields_List pair_ready c.position.new.self _ c.position.result c.position.ensures.ran (YieldsList-from_zip {s = c.zip.result} (YieldsList-from_slice ss cc) (YieldsList-from_slice es cc)) (λ x b q k. search (rules, tests)) ∙ chosen_placed ss es full
