pub mod Entries
pub mod Lists
pub mod Names
pub mod Placing
pub mod Rising
pub mod TreesOf
pub mod Orders
