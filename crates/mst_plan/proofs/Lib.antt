pub use Rattle.mst_lag.proofs as lag_lemmas
pub use Rattle.mst_trees.proofs.forest_lemmas as forest_lemmas
pub mod ByName
pub mod EditNumbers
pub mod Keeping
