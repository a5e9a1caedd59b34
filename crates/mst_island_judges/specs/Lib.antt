pub use Rattle.mst_judged.specs as judged
pub mod Compared
pub mod Grouping
pub mod Seen
