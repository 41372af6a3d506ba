-- The words that the laws of a run are stated with.
use Rattle.std.specs.Prelude.{◌≡◌, true, ℕ, ◌+◌, ◌≤◌}
use Rattle.state.specs.Sound.{stateb}
use Rattle.lines.specs.declared.Line.{Line}
use Rattle.lines.specs.declared.Line.TheVariants.{Nothing, Refused, Lost}
use Rattle.desk.specs.Desk.{tick_limit}
use Rattle.desk.specs.declared.Desk.{Desk}

-- what holds of a run from its setup to its end: the state is sound, and the ticks that are left keep to the limit
pub record Kept (d : Desk) : Type 0 where
  pub sound : stateb d.state ≡ true
  pub within : d.ran + d.left ≤ tick_limit

-- the refusal that a line tells of, or 0
abbrev pub line_number : Line → ℕ
line_number Nothing = 0
line_number (Refused n k) = n
line_number (Lost i j) = 0
