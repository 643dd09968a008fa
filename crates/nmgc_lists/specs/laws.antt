pub mod Items
pub mod Options
pub mod Truths
mod Vocabulary
