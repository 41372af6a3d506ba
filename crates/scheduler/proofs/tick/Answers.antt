-- `scheduler::tick` meets its contract: a state that is not sound is refused, and a tick of any other is accepted (proofs/TickSound.antt).
use mathlib.Core.Path.{sym, ◌∙◌}
use Rattle.refusal.specs.Refusal.{none}
use Rattle.scheduler.specs.Tick.{ticked_with, tick_of}
use Rattle.scheduler.proofs.Outset.{checked_ok, handed_on}
use Rattle.scheduler.proofs.TickSound.{tick_accepts}
use Rattle.scheduler.proofs.tick.Goals as goal

pub returns-in_err-checked : goal.returns-in_err-checked
unfolding tick_of
returns-in_err-checked c =
    let h = handed_on c.args.s.now c.from_residual.result _ c.in_err-checked.ensures.outcome c.from_residual.ensures.1 in
    rw (h.0, h.1)

pub one_tick-requires : goal.one_tick-requires
one_tick-requires c = record { sound = checked_ok c.args.s.now c.in_ok-checked.ensures.outcome; sized = c.checked.ensures.sized }

pub returns : goal.returns
returns c =
    let s = c.args.s.now in
    let t = c.one_tick.ensures in
    (λ k. ticked_with none (t.1 k).choice (t.1 k).handled (t.0 k)) ∙ sym (tick_accepts s (checked_ok s c.in_ok-checked.ensures.outcome))
