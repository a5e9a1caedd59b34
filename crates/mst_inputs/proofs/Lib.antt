pub mod LinesTaken
pub mod PolicyLines
pub mod ChangeLines
