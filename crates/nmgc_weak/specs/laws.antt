pub mod Common
pub mod Left
mod Vocabulary
