pub mod Commands
pub mod Parting
pub mod Meanings
pub mod Unknown
pub mod CommandLine
pub mod PlainWords
pub mod Entered
