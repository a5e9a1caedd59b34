pub mod Aggregation
pub mod Lag
pub mod Places
pub mod Trees
pub mod View
pub mod Viewed
