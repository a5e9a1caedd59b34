pub mod ListLemmas
pub mod Tables
mod FaultLemmas
