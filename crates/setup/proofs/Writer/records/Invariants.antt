-- What `records` keeps: the bytes of so many records are written, and the next place is behind them (`Done`, proofs/Writing.antt).
use Rattle.std.specs.Prelude.{◌≡◌}
use Rattle.setup.proofs.Writing.{Done}
use Rattle.setup.proofs.Writer.records.Given as goal

abbrev pub invariant-loop-r : goal.invariant-loop-r
invariant-loop-r g l =
    let s = l.fn.self in record {
      same : l.self.out.ghost_name ≡ s.out.ghost_name;
      done : Done g.R.Record.bytes l.records s.at s.out.now l.r-index l.self.at l.self.out.now;
    }
