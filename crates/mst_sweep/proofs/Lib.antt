pub use Rattle.mst_facts.proofs as facts_lemmas
pub use Rattle.mst_vlan.proofs as vlan_lemmas
pub mod HomesNamed
pub mod HomesOf
pub mod AllFailures
pub mod Failed
pub mod Moved
pub mod OneSweep
pub mod Placed
pub mod Stay
pub mod Positions
pub mod Joined
pub mod CutApart
pub mod Unbroken
pub mod Paired
pub mod StillJoined
pub mod Untouched
pub mod KeptLinks
pub mod Unlinked
pub mod SameParts
pub mod CutsBy
pub mod NoCuts
pub mod Together
pub mod Windows
pub mod StillOn
pub mod Relabelled
pub mod WithBoth
pub mod PairParts
pub mod OnePairs
pub mod PartsJoined
pub mod SweptParts
mod Made
