-- PROMISED: what docs/ASSURANCE.md names
pub mod Refusals
pub mod Unchanged
pub mod OneOutcome
pub mod RoundTrip
-- WHAT ONLY SERVES
pub mod Parsing
pub mod Writing
pub mod Parsed
pub mod Records
pub mod Accepted
pub mod Origins
