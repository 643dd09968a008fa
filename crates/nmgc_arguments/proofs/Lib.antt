pub mod Passing
mod Vocabulary
