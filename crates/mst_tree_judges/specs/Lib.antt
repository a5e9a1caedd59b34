pub use Rattle.mst_judged.specs as judged
pub mod Seen
