pub use Rattle.mst_engine.specs as engine
pub mod Run
pub mod Status
pub mod Check
pub mod Load
pub mod Shown
