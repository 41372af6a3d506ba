-- `setup::read` meets its contract: the start refuses, or a server, or bytes are left, or the table is read (proofs/Parsing.antt).
use Rattle.std.proofs.Common.{◌≡◌, ◌∙◌, ◌<◌, length, sym, arith}
use borrow.Author.Tests.{eqb-true, eqb-false}
use Rattle.queue.specs.Limits.{longest}
use Rattle.table.specs.Limits.{most_work}
use Rattle.setup.proofs.Parsing.{reading_of, start_few, read_by_start, read_by_servers, read_by_end, read_is}
use Rattle.setup.proofs.read.Goals as goal

pub returns-in_err-count : goal.returns-in_err-count
returns-in_err-count c =
    let f = c.in_err-count.field-0.0 in
    reading_of c.from_residual.result f c.from_residual.ensures.1 ∙ read_by_start longest most_work c.args.s.now f c.in_err-count.ensures.refusal

pub records-requires : goal.records-requires
records-requires c =
    let e = c.in_ok-count.ensures in
    (omega arith, rw e.value (start_few c.args.s.now (sym e.refusal)))

pub returns-in_err-servers : goal.returns-in_err-servers
returns-in_err-servers c =
    let f = c.in_err-servers.field-0.0 in
    let e = c.in_ok-count.ensures in
    reading_of c.from_residual-in_err-servers.result f c.from_residual-in_err-servers.ensures.1
    ∙ read_by_servers longest most_work c.args.s.now _ _ e.value e.rest e.refusal f (rw e.at at c.in_err-servers.ensures.refusal)

pub returns-then-not-is_empty : goal.returns-then-not-is_empty
returns-then-not-is_empty c =
    let e = c.in_ok-count.ensures in
    let f = c.in_ok-servers.ensures in
    let l : 0 < length c.records.new.self.rest.now = omega (arith, eqb-false _ 0 (sym c.if-not-is_empty.ensures)) in
    rw c.at.ensures (read_by_end longest most_work c.args.s.now _ _ e.value e.rest e.refusal (rw e.at at f.refusal) _ _ (rw e.at at f.at) f.rest l)

pub returns : goal.returns
returns c =
    let e = c.in_ok-count.ensures in
    let f = c.in_ok-servers.ensures in
    let l : length c.records.new.self.rest.now ≡ 0 = eqb-true _ 0 (sym c.if-not-is_empty.ensures) in
    read_is longest most_work c.args.s.now _ _ e.value e.rest e.refusal (rw e.at at f.refusal) _ _ (rw e.at at f.at) f.rest l _ (rw c.zero.ensures at f.value)
