pub mod Answering
pub mod Digest
pub mod Staying
pub mod Told
