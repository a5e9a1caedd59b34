pub use Rattle.mst_note_text.specs as note_text
pub use Rattle.mst_path.specs as path
pub use Rattle.mst_sweep.specs as sweep
pub use Rattle.mst_summary.specs as summary
pub mod Missing
pub mod Holds
pub mod Judged
pub mod Named
pub mod Over
pub mod Reasons
pub mod Stretches
pub mod Roots
pub mod Placed
pub mod Risks
pub mod SeenRisks
pub mod Seen
