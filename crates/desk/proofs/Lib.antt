-- PROMISED: what docs/ASSURANCE.md names
pub mod Refusals
pub mod Unchanged
pub mod OneOutcome
pub mod Keeps
pub mod Batches
pub mod Program
pub mod Points
-- WHAT ONLY SERVES
pub mod Counts
pub mod Cases
pub mod OneBatch
pub mod Views
