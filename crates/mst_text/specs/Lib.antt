pub use Rattle.mst_vlan.specs as vlan
pub mod Holders
pub mod Held
pub mod TreeRows
pub mod TreeText
pub mod TreeRuns
pub mod VlanRows
pub mod VlanText
pub mod VlanSeen
pub mod LagText
pub mod LagView
pub mod KeptByLan
pub mod MembersByLan
pub mod ConfigurationText
pub mod Members
pub mod RegionsText
