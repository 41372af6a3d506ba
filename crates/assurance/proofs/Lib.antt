-- PROMISED: what docs/ASSURANCE.md names
pub mod FromFile
pub mod Assured
pub mod RunTicks
pub mod Refilled
pub mod Points
-- WHAT ONLY SERVES
pub mod Account
pub mod Ticks
pub mod Seeing
pub mod History
