pub mod WholeVerify
pub mod Well
