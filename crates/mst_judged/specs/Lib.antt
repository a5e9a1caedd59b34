pub use Rattle.mst_reasons.specs as reasons
pub mod Islands
pub mod Valued
pub mod Seen
