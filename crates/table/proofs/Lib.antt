-- PROMISED: what docs/ASSURANCE.md names
pub mod OneOutcome
pub mod Soundness
-- WHAT ONLY SERVES
pub mod KindNumbers
pub mod Sizes
pub mod Used
pub mod SoundLaws
