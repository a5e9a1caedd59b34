pub mod Feeds
pub mod Drives
pub mod Turned
pub mod Words
