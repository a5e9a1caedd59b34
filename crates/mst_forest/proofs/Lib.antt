pub use Rattle.mst_topology.proofs as topology_lemmas
pub use Rattle.mst_nested.proofs as nested_lemmas
pub use Rattle.mst_config.proofs as config_lemmas
pub mod AllTrees
pub mod CistTopology
pub mod Entries
pub mod InUse
pub mod Lists
pub mod Looking
pub mod MstiTopology
pub mod NestedTrees
pub mod NotInUse
pub mod Numbering
pub mod Outcomes
pub mod Pieces
pub mod Seen
pub mod SettledNet
pub mod Sights
pub mod Views
pub mod Found
