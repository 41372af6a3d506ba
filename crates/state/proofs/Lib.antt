-- PROMISED: what docs/ASSURANCE.md names
pub mod Refusals
pub mod Unchanged
pub mod OneOutcome
pub mod Soundness
pub mod Keeps
pub mod Laws
-- WHAT ONLY SERVES
pub mod Stated
pub mod Delays
pub mod Lapsing
pub mod Sizes
pub mod Choosing
pub mod Answers
pub mod HeldEach
pub mod FreshSound
pub mod FirstReady
pub mod FreshSizes
pub mod Freshly
pub mod Places
pub mod Walks
