pub use Rattle.mst_lag.specs as lag
pub use Rattle.mst_trees.specs.forest as forest
pub use Rattle.mst_trees.specs as trees
pub mod Standing
pub mod Plan
pub mod Kept
pub mod ByName
