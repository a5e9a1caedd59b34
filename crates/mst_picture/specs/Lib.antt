pub use Rattle.mst_summary.specs as summary
pub mod Pieces
pub mod Bridges
pub mod Lans
pub mod Picture
pub mod VlanPicture
pub mod InView
