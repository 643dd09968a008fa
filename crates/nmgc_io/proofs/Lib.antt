pub mod Digits
pub mod Known
pub mod Marked
pub mod Pieces
pub mod Rests
pub mod Separators
mod Vocabulary
