pub use Rattle.mst_print.proofs as print_lemmas
pub mod Skips
pub mod Steps
pub mod Held
pub mod OneRun
pub mod Loads
pub mod OneComparison
pub mod Saved
pub mod Told
pub mod ServedBy
pub mod Uncounted
