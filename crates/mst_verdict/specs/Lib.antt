pub use Rattle.mst_verify.specs.tree_judges.judged.reasons as reasons
pub use Rattle.mst_telling.specs as telling
pub use Rattle.mst_sweeping.specs.sweep as sweep
pub use Rattle.mst_sweeping.specs as sweeping
pub mod Verifying
pub mod Risking
pub mod AsFailure
pub mod Setting
pub mod Stepping
pub mod Taking
