-- BELIEVED: the definitions that contracts and promises speak of
pub mod Desk
pub mod Trace
pub mod Meaning
pub mod Worked
