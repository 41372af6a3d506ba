-- What `records` keeps: i records are read, and what is left to check is the whole of it (`SoFar`, proofs/Parsing.antt).
use Rattle.table.specs.Limits.{entries}
use Rattle.setup.proofs.Parsing.{SoFar}
use Rattle.setup.proofs.Reader.records.Given as goal

abbrev pub invariant-loop-i : goal.invariant-loop-i
invariant-loop-i g l =
    let r = g.R.Record in
    let s = l.fn.self in
    SoFar r.checks r.gives r.span l.fn.zero entries s.at s.rest.now l.n l.all l.self.at l.self.rest.now l.i
