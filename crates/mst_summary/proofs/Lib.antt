pub mod Lists
pub mod Named
pub mod OverSeen
pub mod Next
pub mod VidClasses
pub mod PlacesOn
pub mod OneSummary
