-- BELIEVED: the definition that a contract speaks of
pub mod Lent
