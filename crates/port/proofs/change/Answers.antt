-- `change` meets its contract: it tells what the call gave and left, at the thing that the words hold. Assumes nothing.
use Rattle.std.proofs.Common.{rules, ◌≡◌, refl, Ok, Err}
use Rattle.port.proofs.change.Goals as goal

pub put-requires-clause-fits : goal.put-requires-clause-fits
put-requires-clause-fits g c =
    c.requires.fits (Ok c.in_ok-answer.answer) c.call.new.arg2 record { shown = _; shows = c.read.ensures; left = _; met = c.in_ok-answer.ensures; leaves = refl }

pub returns-in_err-answer : goal.returns-in_err-answer
returns-in_err-answer g c =
    let same : c.from_residual.result ≡ Err c.in_err-answer.field-0.0 = search rules in
    rw same (c.call.new.arg2, record { shown = _; shows = c.read.ensures; left = _; met = c.in_err-answer.ensures; leaves = refl }, refl)
