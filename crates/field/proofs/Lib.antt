-- PROMISED: what docs/ASSURANCE.md names
pub mod RoundTrip
pub mod OneOutcome
-- WHAT ONLY SERVES
pub mod Fields
pub mod Answers
