pub use Rattle.mst_vlan.specs as vlan
pub mod Regions
pub mod Roots
pub mod Ports
pub mod Reach
pub mod Met
pub mod DiffText
pub mod Seen
pub mod Turned
pub mod AlikeNets
