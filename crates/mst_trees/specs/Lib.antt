pub use Rattle.mst_forest.specs as forest
pub mod Wirings
pub mod Own
pub mod Ranked
pub mod Ground
pub mod Mstis
pub mod Bound
pub mod Internal
pub mod SettledBy
