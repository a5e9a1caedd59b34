pub use Rattle.mst_tree_judges.specs as tree_judges
pub use Rattle.mst_path_judges.specs as path_judges
pub use Rattle.mst_island_judges.specs.judged.reasons.summary as summary
pub mod Joined
pub mod Linked
pub mod Whole
