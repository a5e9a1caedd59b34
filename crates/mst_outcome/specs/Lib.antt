pub mod Assignment
pub mod Held
pub mod Parts
pub mod Renamed
pub mod Shared
