-- BELIEVED: the definitions that contracts and promises speak of
pub mod Limits
pub mod Kind
pub mod Kinds
pub mod Table
pub mod Sound
pub mod Meaning
