-- PROMISED: what docs/ASSURANCE.md names
pub mod Refusals
pub mod Unchanged
pub mod OneOutcome
pub mod Soundness
pub mod Keeps
pub mod Laws
pub mod DueTimes
pub mod Room
pub mod Fewest
pub mod Same
pub mod Points
-- WHAT ONLY SERVES
pub mod Cells
pub mod Normal
pub mod Form
pub mod SoundLaws
pub mod Events
pub mod Scan
pub mod Holding
pub mod Walking
pub mod Moving
pub mod Ticking
pub mod Placing
pub mod Passing
pub mod Pushing
pub mod Answers
pub mod Making
