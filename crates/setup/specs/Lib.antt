-- BELIEVED: the definitions that contracts and promises speak of
pub mod Layout
pub mod Read
pub mod Write
pub mod Records
-- WHAT ONLY SERVES: what private functions give
pub mod Moves
