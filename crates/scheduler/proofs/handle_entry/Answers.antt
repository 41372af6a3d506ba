-- `scheduler::handle_entry` meets its contract: what a polling server gives up, where it has to, comes behind its arrivals.
use mathlib.Core.Path.{sym, ap, ◌∙◌}
use Rattle.state.specs.Polling.{lapsed}
use Rattle.state.proofs.Lapsing.{lapsed_same, lapsed_given}
use Rattle.scheduler.specs.Moves.{EntryTurn, served_turn, ended_turn}
use Rattle.scheduler.proofs.handle_entry.Goals as goal

pub returns-then-gives_up : goal.returns-then-gives_up
unfolding served_turn ended_turn
returns-then-gives_up c =
    let s = c.args.server.now in
    let a = c.handle_arrivals-arrived in
    let e = c.give_up.ensures ∙ sym (lapsed_given s a.new.e (sym c.if-gives_up.ensures)) ∙ ap (λ (t : EntryTurn). lapsed s t.entry) a.ensures in
    λ k. record { entry = e k; handled = (a.ensures k).handled }

pub returns-else-gives_up : goal.returns-else-gives_up
unfolding served_turn ended_turn
returns-else-gives_up c =
    let s = c.args.server.now in
    let a = c.handle_arrivals-arrived in
    let e = sym (lapsed_same s a.new.e (sym c.if-gives_up.ensures)) ∙ ap (λ (t : EntryTurn). lapsed s t.entry) a.ensures in
    λ k. record { entry = e k; handled = (a.ensures k).handled }
