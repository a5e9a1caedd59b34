pub use Rattle.mst_roles.specs as roles
pub use Rattle.mst_roles.specs.forest as forest
pub use Rattle.mst_classes.specs as classes
pub mod Reach
pub mod Seen
pub mod Carried
pub mod Kept
