use mathlib.Core.Path.{◌≡◌, refl, sym, ap, ◌∙◌}
use Prim.Native.Nat.{ℕ, ◌<◌}
use lib.ListN.{set}
use native.Mathlib.Omega.{arith}
use Rattle.refusal.specs.Refusal.{none}
use Rattle.scheduler.specs.Run.{batch_size, answers_in, state_after_ticks, ticks_in, run_of}
use Rattle.scheduler.proofs.Outset.{checked_ok, handed_on}
use Rattle.scheduler.proofs.Refusals.{run_accepted}
use Rattle.scheduler.proofs.Answers.{run_done}
use Rattle.scheduler.proofs.Runs.{tick_kept, state_next, answer_next}
use Rattle.scheduler.proofs.run.Goals as goal

pub returns-in_err-checked : goal.returns-in_err-checked
unfolding run_of
returns-in_err-checked c =
    let h = handed_on c.args.s.now c.from_residual.result _ c.in_err-checked.ensures.outcome c.from_residual.ensures.1 in
    rw (h.0, h.1)

pub loop-i-init : goal.loop-i-init
loop-i-init c = record {
  ticking = record { sound = checked_ok c.args.s.now c.in_ok-checked.ensures.outcome; sized = c.checked.ensures.sized };
  state = refl;
  answers = refl;
}

pub loop-i-preserved : goal.loop-i-preserved
loop-i-preserved c =
    let i = c.loop-i.invariant in
    let k = c.loop-i.i in
    let s = c.args.s.now in
    let now = c.loop-i.s in
    let t = c.one_tick.ensures in
    let few : k < batch_size = omega (arith, c.least-count.ensures, c.loop-i-test.true) in
    record {
      ticking = rw t.0 (tick_kept now i.ticking);
      state = t.0 ∙ state_next k s now i.ticking.sound i.state;
      answers = (λ d. set (i.answers d) k (t.1 d)) ∙ answer_next k s now i.ticking.sound i.state few;
    }

pub returns : goal.returns
returns c =
    let i = c.loop-i.invariant in
    let s = c.args.s.now in
    let n : c.loop-i.i ≡ ticks_in c.args.k = omega (arith, c.least-count.ensures, c.loop-i-test.false, c.loop-i.auto.i-end) in
    let sound = checked_ok s c.in_ok-checked.ensures.outcome in
    let a = i.answers ∙ ap (λ (n : ℕ). answers_in n s) n in
    let e = i.state ∙ ap (λ (n : ℕ). state_after_ticks n s) n in
    (λ d. record { answers = a d; state = e d; refusal = none; count = c.least-count.ensures d }) ∙ sym (run_done s c.args.k ((run_accepted s c.args.k).1 sound))
