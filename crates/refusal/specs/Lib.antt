-- BELIEVED: the definitions that contracts and promises speak of
pub mod Numbers
pub mod Refusal
pub mod Reason
