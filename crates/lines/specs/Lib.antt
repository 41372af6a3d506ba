-- BELIEVED: the definitions that contracts and promises speak of
pub mod Decimal
pub mod Lines
