-- PROMISED: what docs/ASSURANCE.md names
pub mod Refusals
pub mod Unchanged
pub mod OneOutcome
pub mod Decimals
-- WHAT ONLY SERVES
pub mod DecimalLaws
pub mod Pieces
pub mod Batch
pub mod Lengths
