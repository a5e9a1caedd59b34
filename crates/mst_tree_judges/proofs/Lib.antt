pub use Rattle.mst_judged.proofs as judged_lemmas
pub mod BrokenRoots
pub mod ChildAdded
pub mod ChildrenTold
pub mod FlatMore
pub mod Keys
pub mod LimitRows
pub mod OverNamed
pub mod RegionOf
pub mod RegionParts
pub mod RolesNamed
pub mod RootsSeen
pub mod RootsThere
pub mod RootsTold
