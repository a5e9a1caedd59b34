pub mod Found
pub mod Sending
pub mod Planning
