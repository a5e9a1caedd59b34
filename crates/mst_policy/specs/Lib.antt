pub mod Items
pub mod Faults
pub mod Arguments
pub mod Forms
pub mod Reading
pub mod Lines
pub mod Leaving
