-- `fresh` of an entry meets its contract: the array of loads is made of the tasks (proofs/Freshly.antt), and what there is to give up then is given up
-- (proofs/Lapsing.antt).
use mathlib.Core.Path.{◌≡◌, sym, ap, ◌∙◌}
use native.Mathlib.Omega.{arith}
use lib.ListN.{length}
use Rattle.std.proofs.Common.{rules}
use Rattle.table.specs.Limits.{entries}
use Rattle.table.specs.Table.{zero_task}
use Rattle.state.specs.Polling.{lapsed}
use Rattle.state.specs.Fresh.{fresh_load, fresh_loads, filled_entry, fresh_entry}
use Rattle.state.specs.declared.Entry.{Entry}
use Rattle.state.proofs.Freshly.{made_map, loads_made}
use Rattle.state.proofs.Lapsing.{lapsed_same, lapsed_given}
use Rattle.state.proofs.Entry.fresh.Goals as goal
use Rattle.state.proofs.Entry.fresh.Goals.{After-gives_up}

-- the entry with its budget of C
abbrev filled : After-gives_up → Entry
filled c = record { loads = c.from_fn.result; arrivals = c.first_events.result; budget = c.args.server.now.budget }

filled_is : (c : After-gives_up) → filled c ≡ filled_entry c.args.server.now
filled_is c =
    let ts = c.args.server.now.tasks in
    let full : length ts ≡ entries = omega arith in
    let loads : c.from_fn.result ≡ fresh_loads ts = made_map _ fresh_load ts zero_task c.from_fn.ensures.items full (λ i y q m k. (search rules, search rules)) ∙ loads_made ts in
    λ i. record { loads = loads i; arrivals = c.first_events.ensures i; budget = c.args.server.now.budget }

pub returns-then-gives_up : goal.returns-then-gives_up
unfolding fresh_entry
returns-then-gives_up c =
    let s = c.args.server.now in
    let a = (goal.at.returns-then-gives_up c).After-gives_up in
    c.give_up.ensures ∙ sym (lapsed_given s (filled a) (sym c.gives_up.ensures ∙ c.if-gives_up.true)) ∙ ap (lapsed s) (filled_is a)

pub returns-else-gives_up : goal.returns-else-gives_up
unfolding fresh_entry
returns-else-gives_up c =
    let s = c.args.server.now in
    let a = (goal.at.returns-else-gives_up c).After-gives_up in
    sym (lapsed_same s (filled a) (sym c.gives_up.ensures ∙ c.if-gives_up.false)) ∙ ap (lapsed s) (filled_is a)
