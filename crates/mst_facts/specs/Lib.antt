pub mod Both
pub mod Roots
pub mod Named
pub mod Told
