-- `desk::Desk::decide` meets its contract: what the reader answers decides what is done, once the state is found sound. Assumes nothing.
use mathlib.Core.Path.{sym, ap, ◌∙◌}
use Rattle.std.proofs.lemmas.Result.{err_from_is_err_and}
use Rattle.message.specs.Message.{read_with}
use Rattle.message.specs.declared.Message.{Message}
use Rattle.refusal.specs.Refusal.{none}
use Rattle.desk.proofs.Cases.{message_past, message_runs}
use Rattle.desk.proofs.Views.{sound_ok, met_unsound, met_unread, met_arrival}
use Rattle.desk.proofs.Desk.decide.Goals as goal

pub returns-in_err-sound-in-Ok-Run : goal.returns-in_err-sound-in-Ok-Run
returns-in_err-sound-in-Ok-Run c =
    let a = c.args in
    let p = err_from_is_err_and c.from_residual.result c.from_residual.ensures.1 in
    rw (p.1, p.2) (met_unsound a.self.now a.place a.bytes.now (sym c.sound.ensures ∙ c.in_err-sound-in-Ok-Run.was))

pub returns-then-self-n-gt-LIMIT : goal.returns-then-self-n-gt-LIMIT
returns-then-self-n-gt-LIMIT c =
    let a = c.args in
    let m = c.in-Ok-Run in
    let s = sound_ok a.self.now (sym c.sound.ensures ∙ c.in_ok-sound-in-Ok-Run.was) in
    sym (message_past a.self.now a.place a.bytes.now s m.n (sym m.ensures ∙ ap (λ (x : Message). read_with none x) m.field-0-is) c.if-self-n-gt-LIMIT.true)

pub returns-in_err-sound-in-Err : goal.returns-in_err-sound-in-Err
returns-in_err-sound-in-Err c =
    let a = c.args in
    let r = c.from_residual-in_err-sound-in-Err in
    let p = err_from_is_err_and r.result r.ensures.1 in
    rw (p.1, p.2) (met_unsound a.self.now a.place a.bytes.now (sym c.sound-in-Err.ensures ∙ c.in_err-sound-in-Err.was))

pub returns-else-self-n-gt-LIMIT : goal.returns-else-self-n-gt-LIMIT
returns-else-self-n-gt-LIMIT c =
    let a = c.args in
    let m = c.in-Ok-Run in
    let s = sound_ok a.self.now (sym c.sound.ensures ∙ c.in_ok-sound-in-Ok-Run.was) in
    sym (message_runs a.self.now a.place a.bytes.now s m.n (sym m.ensures ∙ ap (λ (x : Message). read_with none x) m.field-0-is) c.if-self-n-gt-LIMIT.false)

pub returns-in-Ok-Arrival : goal.returns-in-Ok-Arrival
returns-in-Ok-Arrival c =
    let a = c.args in
    let m = c.in-Ok-Arrival in
    c.arrive.ensures ∙ met_arrival a.self.now a.place a.bytes.now m.server m.task (sym m.ensures ∙ ap (λ (x : Message). read_with none x) m.field-0-is)

pub returns-in_ok-sound-in-Err : goal.returns-in_ok-sound-in-Err
returns-in_ok-sound-in-Err c =
    let a = c.args in
    met_unread a.self.now a.place a.bytes.now c.in-Err.reason c.in-Err.ensures (sound_ok a.self.now (sym c.sound-in-Err.ensures ∙ c.in_ok-sound-in-Err.was))
