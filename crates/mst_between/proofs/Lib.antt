pub mod WholeDiff
pub mod NewTold
