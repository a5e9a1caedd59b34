pub mod ConfNameLemmas
pub mod VidSetLemmas
pub mod VidListLemmas
pub mod VidTextLemmas
pub mod VidRangeLemmas
