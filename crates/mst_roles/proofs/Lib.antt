pub use Rattle.mst_forest.proofs as forest_lemmas
pub mod Forwarded
pub mod ForwardsNested
pub mod Named
pub mod Restricted
pub mod ActiveLaw
pub mod Carried
pub mod Names
pub mod Plugs
pub mod VidTrees
pub mod ActiveListed
