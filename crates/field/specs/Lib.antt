-- BELIEVED: the definitions that contracts and promises speak of
pub mod Field
pub mod Bytes
pub mod Write
