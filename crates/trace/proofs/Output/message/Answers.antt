-- `trace::Output::message` ends: each batch that is not refused leaves fewer ticks (`left_falls` of crate desk).
use Rattle.std.proofs.Common.{◌<◌, sym, ap, subst}
use Rattle.desk.specs.Desk.{RanOn}
use Rattle.desk.proofs.OneBatch.{left_falls}
use Rattle.trace.proofs.Output.message.Goals as goal

pub loop-desk-smaller : goal.loop-desk-smaller
loop-desk-smaller g c =
    let ran = sym c.in-Ok-run_on.ensures in
    subst (λ (r : RanOn). r.desk.left < c.loop-desk.desk.left) ran (left_falls _ (ap (λ (r : RanOn). r.refusal.number) ran) c.loop-desk-test.true)
