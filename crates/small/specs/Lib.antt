-- BELIEVED: what definitions and contracts are written with
pub mod Small
