pub mod Kept
pub mod Moved
pub mod Through
pub mod Hinted
