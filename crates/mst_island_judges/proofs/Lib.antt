pub use Rattle.mst_judged.proofs as judged_lemmas
pub mod BesideParts
pub mod ClassParts
pub mod EitherOn
pub mod StayTogether
pub mod VidGroups
