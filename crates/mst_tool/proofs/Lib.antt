pub use Rattle.mst_engine.proofs as engine_lemmas
pub mod Faults
pub mod Moved
pub mod Shown
pub mod StatusLaws
pub mod NoneCaptured
pub mod WholeCheck
pub mod WholeLoad
pub mod HasTold
