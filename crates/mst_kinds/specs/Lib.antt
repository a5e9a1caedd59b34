pub mod Words
pub mod Kinds
pub mod Sorts
pub mod Shapes
