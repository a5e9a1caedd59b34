pub use Rattle.mst_explain.specs as explain
pub use Rattle.mst_sweeping.specs as sweeping
pub use Rattle.mst_verify.specs as verify
pub mod Goals
pub mod Settings
pub mod Contests
pub mod Priorities
pub mod PortPriorities
pub mod Costs
pub mod InQuestion
pub mod Candidates
pub mod Made
pub mod Hindrances
pub mod Told
pub mod Seen
pub mod Advising
