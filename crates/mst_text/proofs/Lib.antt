pub use Rattle.mst_vlan.proofs as vlan_lemmas
mod TreeNamed
pub mod VlanNamed
mod VlanOnce
mod LagsByLan
mod LagClasses
mod Keeping
mod RegionsSeen
mod Holding
mod Shown
mod TreeRuns
mod VidAlone
mod VidsOf
