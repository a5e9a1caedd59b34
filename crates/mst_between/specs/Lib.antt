pub mod Differing
pub mod Editing
pub mod Diff
