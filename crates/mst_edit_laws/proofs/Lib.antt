mod Plain
pub mod Numbers
pub mod Spaced
mod Macs
mod VidTexts
pub mod LinesRead
mod NoDefaults
mod Steps
mod Seen
mod Whose
mod BridgeMade
mod PortMade
mod LanMade
mod Accepting
mod Nothing
mod Going
mod Coming
mod Room
mod RowLines
mod Reading
mod Sayable
mod ReadAgain
