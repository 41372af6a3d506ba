-- `desk::Desk::run_on` meets its contract: no ticks are run where they would pass the limit, and else the scheduler's outcome is the batch's. Assumes nothing.
use mathlib.Core.Path.{sym, ap, ◌∙◌}
use Prim.Native.Nat.{◌≤◌}
use native.Mathlib.Omega.{arith}
use Rattle.std.proofs.lemmas.Result.{err_from_is_err_and}
use Rattle.scheduler.specs.Run.{Batched, batch_size}
use Rattle.desk.proofs.Counts.{count_most}
use Rattle.desk.proofs.Views.{sound_ok, ran_unsound, ran_past, ran_err, ran_ok}
use Rattle.desk.proofs.Desk.run_on.Goals as goal
use Rattle.desk.proofs.Desk.run_on.Goals.{In_ok-answers}

-- how many ticks the batch has
count : (c : In_ok-answers) → (c.in_ok-answers.field-0.count ≤ c.args.self.now.left) × (c.in_ok-answers.field-0.count ≤ batch_size)
count c =
    let most = count_most c.args.self.now.state c.args.self.now.left in
    let e = ap (λ (x : Batched). x.count) c.in_ok-answers.ensures in
    (omega (arith, most.0), omega (arith, most.1))

pub returns-in_err-sound : goal.returns-in_err-sound
returns-in_err-sound c =
    let p = err_from_is_err_and c.from_residual.result c.from_residual.ensures.1 in
    rw (p.1, p.2) (ran_unsound c.args.self.now (sym c.sound.ensures ∙ c.in_err-sound.was))

pub returns-then-self-gt-LIMIT : goal.returns-then-self-gt-LIMIT
returns-then-self-gt-LIMIT c =
    let d = c.args.self.now in
    ran_past d (sound_ok d (sym c.sound.ensures ∙ c.in_ok-sound.was)) c.if-self-gt-LIMIT.true

pub returns-in_err-answers : goal.returns-in_err-answers
returns-in_err-answers c =
    let r = c.from_residual-in_err-answers in
    let p = err_from_is_err_and r.result r.ensures.1 in
    rw (p.1, p.2) (ran_err c.args.self.now c.run.new.s c.if-self-gt-LIMIT.false c.in_err-answers.field-0.0 c.in_err-answers.ensures)

pub overflow_cast-ticks : goal.overflow_cast-ticks
overflow_cast-ticks c =
    omega (arith, (count (goal.at.overflow_cast-ticks c).In_ok-answers).1)

pub overflow_add-self-2 : goal.overflow_add-self-2
overflow_add-self-2 c =
    omega (arith, (count (goal.at.overflow_add-self-2 c).In_ok-answers).0)

pub overflow_sub-self : goal.overflow_sub-self
overflow_sub-self c =
    (count (goal.at.overflow_sub-self c).In_ok-answers).0

pub returns : goal.returns
returns c =
    ran_ok c.args.self.now c.run.new.s c.if-self-gt-LIMIT.false c.in_ok-answers.ensures
