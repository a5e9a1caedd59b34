pub mod Chains
pub mod ParentLaws
pub mod Ends
pub mod Regions
pub mod Tops
pub mod Steps
pub mod Unseen
pub mod Down
pub mod Up
pub mod Heights
pub mod Listed
pub mod Forests
mod Placing
mod Flat
mod Giving
mod Heard
mod TreeParents
mod Listing
mod RootRole
mod InTrees
mod Names
mod Found
mod AllSteps
mod TreeChildren
mod Noting
mod OneText
mod Unhad
mod Flags
