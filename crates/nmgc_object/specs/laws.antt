pub mod Classes
pub mod Common
pub mod Headers
mod Vocabulary
