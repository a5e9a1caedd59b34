pub mod Tables
pub mod Hinted
