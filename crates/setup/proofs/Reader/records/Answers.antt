-- `setup::Reader::records` meets its contract: the record that is refused is the first that is, and with one read more the loop goes on (proofs/Parsing.antt).
use Rattle.setup.proofs.Parsing.{refused_by, so_far_more, so_far_refused}
use Rattle.setup.proofs.Reader.records.Goals as goal

pub returns-in_err-all-clause-refusal : goal.returns-in_err-all-clause-refusal
returns-in_err-all-clause-refusal g c =
    let f = c.in_err-all.field-0.0 in
    rw (so_far_refused c.loop-i.invariant g.met.R.Record.all_numbered c.loop-i-test.true f c.in_err-all.ensures.refusal) (refused_by c.from_residual.result f c.from_residual.ensures.1)

pub loop-i-preserved : goal.loop-i-preserved
loop-i-preserved g c =
    let e = c.in_ok-all.ensures in
    rw (e.value, e.at, e.rest) (so_far_more c.loop-i.invariant g.met.R.Record.all_numbered c.requires c.loop-i-test.true e.refusal)
