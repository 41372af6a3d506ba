-- BELIEVED: the definitions that contracts and promises speak of
pub mod Arrive
pub mod Tick
pub mod Run
pub mod Meaning
pub mod Edge
pub mod PollingEdge
-- WHAT ONLY SERVES: what private functions give
pub mod Moves
