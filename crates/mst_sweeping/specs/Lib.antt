pub use Rattle.mst_plan.specs as plan
pub use Rattle.mst_sweep.specs as sweep
pub mod Sweeping
pub mod Pairing
pub mod Links
pub mod MovedVids
pub mod Restarts
pub mod Turns
pub mod StepText
pub mod Seen
