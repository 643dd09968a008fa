pub mod CheckedLaws
pub mod Many
mod Sampled
pub mod Samples
pub mod SharedSlots
mod Started
pub mod TwoObjects
mod Vocabulary
