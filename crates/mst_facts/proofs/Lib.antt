pub mod FirstNamed
pub mod Lists
pub mod Named
