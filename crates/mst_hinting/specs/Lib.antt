pub use Rattle.mst_hints.specs as hints
pub mod Lines
pub mod Kept
pub mod Hinted
pub mod Listening
