pub mod WholeAlter
pub mod Well
