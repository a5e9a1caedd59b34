pub mod PartsAlone
pub mod Renamed
pub mod Tables
