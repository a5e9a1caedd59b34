pub mod Gathered
pub mod Moving
pub mod Starting
pub mod Split
pub mod Told
pub mod Pairing
pub mod Firsts
pub mod InSame
mod VidLists
pub mod VidPlaces
