-- PROMISED: what docs/ASSURANCE.md names
pub mod Refusals
pub mod Unchanged
pub mod OneOutcome
pub mod RoundTrip
-- WHAT ONLY SERVES
pub mod Cases
pub mod Answers
