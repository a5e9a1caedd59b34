pub use Rattle.mst_frame.specs as frame
pub mod Table
pub mod Strays
pub mod Words
pub mod Flags
