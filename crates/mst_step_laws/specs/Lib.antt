pub mod InReach
pub mod Unkept
pub mod Together
