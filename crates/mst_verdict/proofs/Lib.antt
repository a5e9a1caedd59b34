pub use Rattle.mst_sweeping.proofs.sweep_lemmas as sweep_lemmas
pub mod OneTold
pub mod UnkeptTold
pub mod NothingBack
pub mod Findings
pub mod Judgements
pub mod OneJudgement
pub mod AsFailure
pub mod RefusedRisks
pub mod Made
pub mod Walked
pub mod Watched
