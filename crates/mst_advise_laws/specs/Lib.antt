pub mod Greater
pub mod Needed
pub mod Said
