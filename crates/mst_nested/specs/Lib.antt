pub mod Ports
pub mod Trees
pub mod Costs
pub mod Parts
pub mod Outcome
pub mod Roles
pub mod Active
pub mod Exits
