pub mod Bare
pub mod Common
pub mod Rows
mod Vocabulary
