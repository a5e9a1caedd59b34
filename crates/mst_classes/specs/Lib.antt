pub mod AllVids
pub mod Alike
pub mod Classes
pub mod Pairs
pub mod Splitting
pub mod Flags
