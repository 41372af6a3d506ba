-- PROMISED: what docs/ASSURANCE.md names
pub mod OneOutcome
