pub use Rattle.mst_print.specs as print
pub use Rattle.mst_report.specs as report
pub mod Steps
pub mod Script
pub mod Captures
pub mod Engine
pub mod Served
pub mod Serving
