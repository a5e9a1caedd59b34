pub mod Named
pub mod TwoEnds
pub mod Lines
pub mod Numbered
pub mod IslandsNamed
