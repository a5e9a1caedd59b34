pub use Rattle.mst_outcome.specs as outcome
pub use Rattle.mst_topology.specs as topology
pub use Rattle.mst_nested.specs as nested
pub use Rattle.mst_config.specs as config
pub mod Agrees
pub mod AllTrees
pub mod Apart
pub mod Cist
pub mod Forest
pub mod InUse
pub mod Msti
pub mod Numbered
pub mod Outcome
pub mod Seen
pub mod Settled
pub mod Sight
pub mod Mstis
