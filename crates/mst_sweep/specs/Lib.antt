pub use Rattle.mst_facts.specs as facts
pub use Rattle.mst_vlan.specs as vlan
pub mod Between
pub mod Failures
pub mod Left
pub mod Moved
pub mod Parts
pub mod Cuts
pub mod SweepText
pub mod SweepParts
pub mod Pairs
pub mod CutClasses
pub mod Failing
pub mod Seen
pub mod Baseline
pub mod Apart
pub mod Touched
pub mod Breaking
