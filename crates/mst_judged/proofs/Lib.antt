pub use Rattle.mst_reasons.proofs as reasons_lemmas
pub mod NamedIn
pub mod VidFlags
pub mod HomesMade
pub mod StillMade
pub mod StillReached
pub mod HomeParts
pub mod VidReasons
pub mod VidParts
pub mod OfVids
pub mod ClassValues
pub mod ValueGroups
pub mod ClassesOfBoth
