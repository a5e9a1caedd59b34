pub use Rattle.mst_hinting.specs.hints as hints
pub mod Inputs
pub mod Opened
pub mod Named
pub mod Framed
pub mod Hinted
pub mod Served
