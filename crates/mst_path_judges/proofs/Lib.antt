pub use Rattle.mst_judged.proofs as judged_lemmas
pub mod Moved
pub mod Kept
pub mod Farthest
pub mod SpanOrder
pub mod Placed
pub mod CountedSpans
