pub use Rattle.mst_tree_judges.proofs as tree_judges_lemmas
pub use Rattle.mst_path_judges.proofs as path_judges_lemmas
pub use Rattle.mst_island_judges.proofs.judged_lemmas.reasons_lemmas.summary_lemmas as summary_lemmas
pub mod BrokenLists
pub mod BrokenParts
pub mod BrokenPaths
pub mod Paths
pub mod BrokenTrees
pub mod ReasonsTogether
pub mod Limits
pub mod Failed
pub mod OneReasons
pub mod SomeChildren
pub mod SomeReasons
pub mod ReachLinked
pub mod CutsFail
pub mod TogetherSwept
pub mod JudgedSomewhere
