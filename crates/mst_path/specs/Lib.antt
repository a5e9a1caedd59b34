pub use Rattle.mst_vlan.specs as vlan
pub mod Paths
pub mod PathRows
pub mod Places
pub mod Counts
