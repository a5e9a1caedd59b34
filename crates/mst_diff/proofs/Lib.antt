pub use Rattle.mst_vlan.proofs as vlan_lemmas
pub mod Shared
pub mod Once
pub mod NamedSides
pub mod Reached
pub mod OneDiff
pub mod Alike
pub mod Turned
pub mod LastLine
pub mod AlikeNets
pub mod SameSides
pub mod SidesGrouped
pub mod ReachTurned
pub mod SameIslands
pub mod MetSides
