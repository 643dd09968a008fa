pub mod Blocks
pub mod Fields
pub mod Placings
pub mod Ranges
mod Vocabulary
