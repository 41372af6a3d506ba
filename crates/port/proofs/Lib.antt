-- PROMISED: what docs/ASSURANCE.md names
pub mod Refusals
pub mod OneOutcome
pub mod RoundTrip
pub mod Again
-- WHAT ONLY SERVES
pub mod Many
pub mod Calls
pub mod Storing
pub mod Sizing
pub mod Ranges
pub mod Answering
pub mod Held
pub mod HeldState
