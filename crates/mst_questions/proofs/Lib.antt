pub use Rattle.mst_tool.proofs as tool_lemmas
pub mod EarlyRefusals
pub mod Plain
pub mod WholeAsk
pub mod Explained
