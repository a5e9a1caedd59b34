pub mod KeptLemmas
pub mod Marks
