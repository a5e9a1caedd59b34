pub mod Shape
pub mod Parts
