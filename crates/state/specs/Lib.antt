-- BELIEVED: the definitions that contracts and promises speak of
pub mod State
pub mod Choice
pub mod Polling
pub mod Sound
pub mod Fresh
pub mod Meaning
-- WHAT ONLY SERVES: what only laws speak of
pub mod Moves
