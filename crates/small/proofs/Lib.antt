-- PROMISED: what docs/ASSURANCE.md names
pub mod OneOutcome
-- WHAT ONLY SERVES: laws that every proof may cite
pub mod Outcome
pub mod Tests
pub mod All
pub mod Padded
pub mod Lists
pub mod Altered
pub mod Used
pub mod Each
pub mod Sums
pub mod Tallies
