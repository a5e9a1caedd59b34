pub mod Endings
pub mod Said
pub mod Words
pub mod Flags
pub mod Serving
pub mod Program
pub mod Invites
pub mod Piped
