pub use Rattle.mst_tables.specs as tables
pub mod Standing
pub mod Checks
pub mod NetworkKept
pub mod Foreseen
