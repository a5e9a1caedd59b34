pub mod Rows
pub mod Kept
pub mod Tally
pub mod Blocks
