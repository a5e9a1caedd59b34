pub mod Devices
pub mod Held
pub mod Written
