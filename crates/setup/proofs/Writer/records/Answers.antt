-- `setup::Writer::records` meets its contract: with each record its bytes are written behind those before (proofs/Writing.antt).
use Rattle.std.proofs.Common.{◌∙◌, refl}
use Rattle.field.proofs.Fields.{over_length}
use Rattle.setup.proofs.Writing.{done_start, done_room, done_more}
use Rattle.setup.proofs.Writer.records.Goals as goal

pub loop-r-init : goal.loop-r-init
loop-r-init g c =
    let w = c.args.self.now in
    record { same = refl; done = done_start g.R.Record.bytes c.args.records.now w.at w.out.now c.requires.room }

pub write-requires-clause-room : goal.write-requires-clause-room
write-requires-clause-room g c =
    let w = c.args.self.now in
    done_room g.R.Record.bytes c.args.records.now w.at w.out.now c.requires.room c.loop-r-test.true c.loop-r.invariant.done c.r-item.result c.r-item.is

pub loop-r-preserved : goal.loop-r-preserved
loop-r-preserved g c =
    let w = c.args.self.now in
    let e = c.write.ensures in record {
      same = e.same ∙ c.loop-r.invariant.same;
      done = done_more g.R.Record.bytes c.args.records.now w.at w.out.now c.requires.room c.loop-r-test.true c.loop-r.invariant.done c.r-item.result c.r-item.is _ _ e.at e.bytes;
    }

pub returns-clause-room : goal.returns-clause-room
returns-clause-room g c =
    rw (c.loop-r.invariant.done.bytes, over_length)
