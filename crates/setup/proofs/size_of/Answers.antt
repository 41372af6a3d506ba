-- `setup::size_of` meets its contract: each server in use takes its head and its tasks (`server_length`), and has at most eight (`used_fit`).
use Rattle.std.proofs.Common.{◌≡◌, ◌≤◌, ◌<◌, length, take, get_or, arith}
use lib.ListN.{length-take}
use Rattle.std.proofs.lemmas.List.{take_all}
use Rattle.small.proofs.All.{all_at}
use Rattle.small.proofs.Each.{length_more}
use Rattle.queue.specs.Limits.{longest}
use Rattle.table.specs.Limits.{entries, most_work}
use Rattle.table.specs.declared.Server.{Server}
use Rattle.table.proofs.Sizes.{past_server}
use Rattle.setup.specs.Layout.{server_bytes, record_bytes}
use Rattle.setup.proofs.Writing.{Fit, server_length, table_length, used_most, used_fit}
use Rattle.setup.proofs.size_of.Goals as goal
use Rattle.setup.proofs.size_of.Goals.{In-loop-s, Start}

few : (c : Start) → c.args.t.now.count ≤ entries
few c = used_most longest most_work c.args.t.now c.requires

module _ (c : In-loop-s) where
  -- the server that the loop has come to
  abbrev server : Server
  server = get_or (take c.args.t.now.count c.args.t.now.servers) c.loop-s.s-index past_server

  fit : Fit server
  fit = all_at Fit past_server _ (used_fit longest most_work c.args.t.now c.requires) c.loop-s.s-index c.loop-s-test.true

  here : c.loop-s.s-index < entries
  here = let l : length (take c.args.t.now.count c.args.t.now.servers) ≤ c.args.t.now.count = rw length-take (omega arith) in omega (arith, few (goal.at.In-loop-s c).Start)

  tasks : length (take server.count server.tasks) ≤ entries
  tasks = rw length-take (omega (arith, fit))

pub shared_ref_as_front-s-items : goal.shared_ref_as_front-s-items
shared_ref_as_front-s-items c = few (goal.at.shared_ref_as_front-s-items c).Start

pub offset_bounds-s-items-s-index : goal.offset_bounds-s-items-s-index
offset_bounds-s-items-s-index c = omega (arith, here c)

pub overflow_add-size : goal.overflow_add-size
overflow_add-size c = omega (arith, here (goal.at.overflow_add-size c).In-loop-s)

pub shared_ref_as_front-size : goal.shared_ref_as_front-size
shared_ref_as_front-size c = fit (goal.at.shared_ref_as_front-size c).In-loop-s

pub overflow_mul-size : goal.overflow_mul-size
overflow_mul-size c = omega (arith, tasks (goal.at.overflow_mul-size c).In-loop-s)

pub overflow_add-size-in-loop-s : goal.overflow_add-size-in-loop-s
overflow_add-size-in-loop-s c =
    omega (arith, here (goal.at.overflow_add-size-in-loop-s c).In-loop-s, tasks (goal.at.overflow_add-size-in-loop-s c).In-loop-s)

pub loop-s-preserved : goal.loop-s-preserved
loop-s-preserved c =
    let at = (goal.at.loop-s-preserved c).In-loop-s in
    let items = take c.args.t.now.count c.args.t.now.servers in
    (omega (arith, length_more server_bytes items c.loop-s.s-index past_server c.loop-s-test.true, server_length (server at)), omega (arith, tasks at))

pub returns : goal.returns
unfolding record_bytes
returns c =
    let items = take c.args.t.now.count c.args.t.now.servers in
    let all : take c.loop-s.s-index items ≡ items = take_all c.loop-s.s-index items c.loop-s-test.false in
    let few = few (goal.at.returns c).Start in
    let l : length items ≤ c.args.t.now.count = rw length-take (omega arith) in
    (rw (table_length c.args.t.now, ← all) c.loop-s.invariant.0, omega arith)
