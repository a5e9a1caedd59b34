pub use Rattle.mst_slips.specs as slips
pub use Rattle.mst_facts.specs as facts
pub use Rattle.mst_vlan.specs as vlan
pub mod Counts
pub mod Roots
pub mod Blocked
pub mod Vlans
pub mod Carries
pub mod SummaryText
pub mod Grouped
pub mod Places
pub mod Seen
pub mod Kept
