pub mod RunLemmas
pub mod Short
pub mod Cuts
mod Cutting
mod RunSets
mod Keeping
pub mod Lists
pub mod TreesMapped
pub mod Listing
pub mod Sets
mod Moved
mod MovesInTurn
mod Filtered
mod Quiet
pub mod LinesMade
mod Equal
mod TablesMade
mod NewTable
mod RowsInTurn
