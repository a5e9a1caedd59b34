pub use Rattle.mst_inputs.specs as inputs
pub use Rattle.mst_verdict.specs as verdict
pub mod Verify
pub mod Well
