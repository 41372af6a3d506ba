-- BELIEVED: the definitions that contracts and promises speak of
pub mod Limits
pub mod Row
pub mod Sound
pub mod Meaning
pub mod Holds
pub mod Calls
pub mod Steps
pub mod Edge
-- WHAT ONLY SERVES: what private functions give
pub mod Moves
