pub mod Asking
pub mod FewAnswers
pub mod Leaving
pub mod Marked
pub mod Single
pub mod Answering
mod Vocabulary
