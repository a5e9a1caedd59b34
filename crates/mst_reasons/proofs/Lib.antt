pub use Rattle.mst_note_text.proofs as note_text_lemmas
pub use Rattle.mst_path.proofs as path_lemmas
pub use Rattle.mst_sweep.proofs as sweep_lemmas
pub use Rattle.mst_summary.proofs as summary_lemmas
pub mod Things
pub mod NamedIn
pub mod Remaining
pub mod RisksSeen
pub mod LinesKept
