pub mod Faults
pub mod Words
pub mod Arguments
pub mod Forms
pub mod Values
pub mod Reading
pub mod Ranges
pub mod Lines
