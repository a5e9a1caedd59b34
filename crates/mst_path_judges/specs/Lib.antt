pub use Rattle.mst_judged.specs as judged
pub mod Asked
pub mod Spans
pub mod Longest
