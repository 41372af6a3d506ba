-- BELIEVED: the definitions that contracts and promises speak of
pub mod Layout
pub mod Words
pub mod Exports
