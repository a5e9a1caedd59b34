pub use Rattle.mst_text.proofs as text_lemmas
pub mod SeenTrees
pub mod VidsAlike
pub mod Grouped
pub mod Classes
mod Pairs
mod PortLinks
mod FirstOfGroup
pub mod OnePlan
