pub use Rattle.mst_tool.specs as tool
pub use Rattle.mst_path.specs as path
pub use Rattle.mst_sweeping.specs as sweeping
pub mod Asked
pub mod Ends
pub mod Fates
pub mod Tracing
pub mod Trace
