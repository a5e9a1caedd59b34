pub mod Alter
pub mod Well
