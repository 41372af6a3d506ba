-- `all_spent` of a state meets its contract: `all` over each entry with its server (proofs/Walks.antt).
use mathlib.Core.Path.{◌∙◌}
use Rattle.std.proofs.Common.{rules, tests}
use Rattle.std.proofs.lemmas.Iterator.{YieldsList-from_slice, YieldsList-from_zip}
use Rattle.std.proofs.lemmas.Iterator.Search.{all_from_yields_List}
use Rattle.table.specs.declared.Server.{Server}
use Rattle.state.specs.Sound.{spentb}
use Rattle.state.specs.declared.Entry.{Entry}
use Rattle.state.proofs.Walks.{each_walked}
use Rattle.state.proofs.State.all_spent.Goals as goal

pub returns : goal.returns
returns c =
    let ss = c.args.self.now.table.servers in
    let es = c.args.self.now.entries in
    all_from_yields_List (λ (x : Server × Entry). spentb x.0 x.1) c.all.new.self _ c.all.result c.all.ensures.ran (YieldsList-from_zip {s = c.zip.result} (YieldsList-from_slice ss cc) (YieldsList-from_slice es cc)) (λ x b q k. search (rules, tests))
    ∙ each_walked spentb ss es
