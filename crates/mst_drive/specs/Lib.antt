pub mod Said
pub mod Feeding
pub mod Driving
pub mod Turned
pub mod Words
