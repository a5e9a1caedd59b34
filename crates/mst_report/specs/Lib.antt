pub use Rattle.mst_changes.specs as changes
pub mod State
pub mod Answers
pub mod Digest
pub mod Refusing
pub mod Planned
pub mod Kept
