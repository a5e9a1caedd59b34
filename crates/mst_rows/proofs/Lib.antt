mod Cells
mod Escapes
mod JsonText
pub mod Loops
mod Maps
mod ObjectsFit
mod OneMore
pub mod Printers
mod PrintedLaws
mod ReadsBack
mod SameCells
mod SameRows
