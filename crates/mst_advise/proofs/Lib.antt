pub use Rattle.mst_explain.proofs as explain_lemmas
pub use Rattle.mst_verify.proofs.tree_judges_lemmas as tree_judges_lemmas
pub mod ContestRows
pub mod PortsNamed
pub mod ForwardingPort
pub mod BridgeNamed
pub mod GreatestUpto
pub mod OthersSeen
pub mod OneCandidates
pub mod Beside
pub mod Tried
pub mod OneAdvice
