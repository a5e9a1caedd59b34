pub mod Tells
pub mod Steps
pub mod Hearing
pub mod Ended
