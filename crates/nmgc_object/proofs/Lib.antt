pub mod Pointers
mod Vocabulary
