pub use Rattle.mst_tool.proofs as tool_lemmas
pub mod Ahead
pub mod Fated
pub mod OneFate
pub mod FateThere
pub mod OneTraced
pub mod WholeTrace
