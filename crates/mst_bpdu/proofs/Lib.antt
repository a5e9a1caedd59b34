pub mod MessageLemmas
pub mod CompareLemmas
pub mod TrimLemmas
mod MappedRows
pub mod ReadingLemmas
