mod Parts
pub mod Plain
pub mod Shown
