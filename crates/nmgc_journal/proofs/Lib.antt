pub mod Buffers
pub mod Crossing
pub mod Ended
pub mod Read
mod Vocabulary
