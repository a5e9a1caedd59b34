pub mod Tables
pub mod Said
pub mod Hinted
pub mod Wrong
pub mod Noted
pub mod Lined
pub mod Held
pub mod Refused
