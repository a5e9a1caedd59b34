pub mod Sender
pub mod Plan
pub mod Comparison
pub mod Seen
