-- PROMISED: what docs/ASSURANCE.md names
pub mod Reasons
pub mod OneOutcome
-- WHAT ONLY SERVES
pub mod Decided
pub mod Exactly
pub mod Joined
