-- PROMISED: what docs/ASSURANCE.md names
pub mod Refusals
pub mod Unchanged
pub mod OneOutcome
pub mod Keeps
pub mod Laws
pub mod Points
-- WHAT ONLY SERVES
pub mod LapsedEntries
pub mod Answers
pub mod Reached
pub mod AgainLaws
pub mod Turns
pub mod TickSound
pub mod KeptSizes
pub mod Budgets
pub mod TaskLaws
pub mod Arrivals
pub mod Refilling
pub mod Outset
pub mod TickParts
pub mod Runs
