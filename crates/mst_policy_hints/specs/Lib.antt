pub mod Near
pub mod Hints
