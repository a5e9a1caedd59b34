pub use Rattle.mst_verifying.specs as verifying
pub use Rattle.mst_questions.specs as questions
pub use Rattle.mst_tracing.specs as tracing
pub mod Requests
pub mod Standing
pub mod Asking
pub mod Lines
pub mod Kept
pub mod Replies
pub mod Questions
pub mod Answering
pub mod Opening
