-- `scheduler::charge_chosen` meets its contract: the chosen server has budget, and its entry is charged (proofs/TickParts.antt).
use mathlib.Core.Path.{◌≡◌, sym}
use Rattle.std.specs.Prelude.{Some}
use Rattle.state.specs.Choice.{place_in, chosen_of}
use Rattle.scheduler.proofs.TickParts.{chosen_budget, chosen_loads, charge_one, charge_none, says_running, says_burning, says_idle}
use Rattle.scheduler.proofs.charge_chosen.Goals as goal
use Rattle.scheduler.proofs.charge_chosen.Goals.{In-Some}

-- the chosen one
chosen : (c : In-Some) → place_in (chosen_of c.args.s.now) ≡ Some c.in-Some.i
chosen c = sym c.in-Some.ensures

pub returns-in_default : goal.returns-in_default
returns-in_default c =
    let none = sym c.in_default.ensures in
    (charge_none c.args.s.now c.requires none, says_idle c.args.s.now c.requires none)

pub charge-requires : goal.charge-requires
charge-requires c =
    let i = chosen (goal.at.charge-requires c).In-Some in
    (chosen_budget c.args.s.now c.requires i, chosen_loads c.args.s.now c.requires i)

pub returns-in-Some-charge : goal.returns-in-Some-charge
returns-in-Some-charge c =
    let i = chosen (goal.at.returns-in-Some-charge c).In-Some in
    let e = c.in-Some-charge.ensures in
    (charge_one c.args.s.now c.requires i e.0, says_running c.args.s.now c.requires i (sym e.1))

pub returns-in-None : goal.returns-in-None
returns-in-None c =
    let i = chosen (goal.at.returns-in-None c).In-Some in
    let e = c.in-None.ensures in
    (charge_one c.args.s.now c.requires i e.0, says_burning c.args.s.now c.requires i (sym e.1))
