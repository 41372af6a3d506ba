-- BELIEVED: the definitions that contracts and promises speak of
pub mod History
pub mod Demand3
pub mod Worked
