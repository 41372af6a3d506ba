-- `table::in_use` meets its contract: `all` over the used and `all` over the unused (proofs/Used.antt).
use mathlib.Core.Path.{◌≡◌, ◌∙◌}
use lib.ListN.{take, drop}
use Rattle.std.proofs.Common.{rules, tests}
use Rattle.std.specs.List.{list_all}
use Rattle.std.proofs.lemmas.Iterator.{YieldsList-from_slice}
use Rattle.std.proofs.lemmas.Iterator.Search.{all_from_yields_List}
use Rattle.table.proofs.Used.{split_used}
use Rattle.table.proofs.in_use.Goals as goal
use Rattle.table.proofs.in_use.Goals.{After-all}

used : (g : _) (c : After-all g) → c.all.result ≡ list_all g.T.Part.in_range (take c.min.result c.args.entries.now)
used g c =
    all_from_yields_List g.T.Part.in_range _ _ _ c.all.ensures.ran (YieldsList-from_slice (take c.min.result c.args.entries.now) cc) (λ x b q k. search (rules, tests))

pub returns-then-all : goal.returns-then-all
returns-then-all g c =
    let u = used g (goal.at.returns-then-all g c).After-all in
    let d : c.all-then-all.result ≡ list_all g.T.Part.zero (drop c.min.result c.args.entries.now) =
    all_from_yields_List g.T.Part.zero _ _ _ c.all-then-all.ensures.ran (YieldsList-from_slice (drop c.min.result c.args.entries.now) cc) (λ x b q k. search (rules, tests)) in
    d ∙ rw (← u, c.if-all.true) at (split_used g.T.Part.in_range g.T.Part.zero c.args.entries.now c.args.count c.min.result c.min.ensures)

pub returns-else-all : goal.returns-else-all
returns-else-all g c =
    let u = used g (goal.at.returns-else-all g c).After-all in
    c.if-all.false ∙ rw (← u, c.if-all.false) at (split_used g.T.Part.in_range g.T.Part.zero c.args.entries.now c.args.count c.min.result c.min.ensures)
