pub use Rattle.mst_advise.specs.sweeping.sweep as sweep
pub use Rattle.mst_tool.specs as tool
pub mod Asked
pub mod Ask
pub mod Shown
pub mod Explaining
pub mod Unadvised
pub mod Summarizing
pub mod Picturing
