-- `desk::Desk::arrive` meets its contract: the scheduler's outcome decides which line is written. Its 31 says that the state is not sound, and the state that it
-- leaves is then the one that was lent. Assumes nothing.
use Rattle.std.proofs.Common.{rules}
use mathlib.Core.Path.{sym, ◌∙◌}
use denote.Enum.Bare.{same_true, same_false}
use Rattle.refusal.specs.contracts.Reason.{the_type}
use Rattle.refusal.specs.declared.Reason.TheVariants.{Unsound}
use Rattle.refusal.proofs.Reasons.{number_one}
use Rattle.desk.proofs.Views.{arrived_ok, arrived_unsound, arrived_refused_by}
use Rattle.desk.proofs.Desk.arrive.Goals as goal

pub returns-in-Ok-Accepted : goal.returns-in-Ok-Accepted
returns-in-Ok-Accepted c =
    let a = c.args in
    arrived_ok a.self.now a.server a.task a.place c.arrive.new.s (rw (c.in-Ok-Accepted.is, c.in-Ok-Accepted.field-0-is) at c.arrive.ensures)

pub returns-in-Ok-Lost : goal.returns-in-Ok-Lost
returns-in-Ok-Lost c =
    let a = c.args in
    arrived_ok a.self.now a.server a.task a.place c.arrive.new.s (rw (c.in-Ok-Lost.is, c.in-Ok-Lost.field-0-is) at c.arrive.ensures)

pub returns-in-Err : goal.returns-in-Err
returns-in-Err c =
    let a = c.args in
    let r = c.in-Err in
    arrived_unsound a.self.now a.server a.task a.place c.arrive.new.s r.reason (same_true the_type (search rules) _ _ (sym c.eq.ensures ∙ c.if-eq.true)) r.ensures

pub returns-in-Err-2 : goal.returns-in-Err-2
returns-in-Err-2 c =
    let a = c.args in
    let r = c.in-Err in
    let other = same_false the_type r.reason Unsound (sym c.eq.ensures ∙ c.if-eq.false) in
    rw c.number.ensures
    (arrived_refused_by a.self.now a.server a.task a.place c.arrive.new.s r.reason (λ e. other (number_one r.reason Unsound e)) r.ensures)
