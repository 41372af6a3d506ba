-- `setup::Record::read` of a server meets its contract: the head refuses, or a task, or the server is read with its tasks (proofs/Parsing.antt).
use Rattle.std.proofs.Common.{◌∙◌, sym, ap, arith}
use Rattle.queue.specs.Limits.{longest}
use Rattle.table.specs.Limits.{most_work}
use Rattle.table.specs.declared.Server.{Server}
use Rattle.setup.proofs.Parsing.{refused_by, head_few, server_by_head, server_by_tasks, server_is, server_behind}
use Rattle.setup.proofs.ServerRecord.read.Goals as goal

pub returns-in_err-server-clause-refusal : goal.returns-in_err-server-clause-refusal
returns-in_err-server-clause-refusal c =
    let r = c.args.r.now in
    let f = c.in_err-server.field-0.0 in
    refused_by c.from_residual.result f c.from_residual.ensures.1 ∙ server_by_head longest most_work r.at r.rest.now f c.in_err-server.ensures.refusal

pub records-requires : goal.records-requires
records-requires c =
    let r = c.args.r.now in
    let e = c.in_ok-server.ensures in
    (omega arith, rw e.value (head_few longest r.at r.rest.now (sym e.refusal)))

pub returns-in_err-server-2-clause-refusal : goal.returns-in_err-server-2-clause-refusal
returns-in_err-server-2-clause-refusal c =
    let r = c.args.r.now in
    let e = c.in_ok-server.ensures in
    refused_by c.from_residual-in_err-server-2.result c.in_err-server-2.field-0.0 c.from_residual-in_err-server-2.ensures.1
    ∙ c.in_err-server-2.ensures.refusal
    ∙ server_by_tasks longest most_work r.at r.rest.now _ _ (ap (λ (s : Server). s.count) e.value) e.rest _ e.refusal e.at

pub returns-clause-refusal : goal.returns-clause-refusal
returns-clause-refusal c =
    let r = c.args.r.now in
    let e = c.in_ok-server.ensures in
    c.in_ok-server-2.ensures.refusal ∙ server_by_tasks longest most_work r.at r.rest.now _ _ (ap (λ (s : Server). s.count) e.value) e.rest _ e.refusal e.at

pub returns-clause-value : goal.returns-clause-value
returns-clause-value c =
    let r = c.args.r.now in
    let e = c.in_ok-server.ensures in
    server_is longest most_work r.at r.rest.now _ _ (ap (λ (s : Server). s.count) e.value) e.rest c.in_ok-server.server _ e.value (rw c.zero.ensures at c.in_ok-server-2.ensures.value)

pub returns-clause-at : goal.returns-clause-at
returns-clause-at c =
    let r = c.args.r.now in
    let e = c.in_ok-server.ensures in
    let f = c.in_ok-server-2.ensures in
    (server_behind longest most_work r.at r.rest.now _ _ (ap (λ (s : Server). s.count) e.value) e.rest _ _ _ e.at f.at f.rest).0

pub returns-clause-rest : goal.returns-clause-rest
returns-clause-rest c =
    let r = c.args.r.now in
    let e = c.in_ok-server.ensures in
    let f = c.in_ok-server-2.ensures in
    (server_behind longest most_work r.at r.rest.now _ _ (ap (λ (s : Server). s.count) e.value) e.rest _ _ _ e.at f.at f.rest).1
