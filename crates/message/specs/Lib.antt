-- BELIEVED: the definitions that contracts and promises speak of
pub mod Message
pub mod Meaning
