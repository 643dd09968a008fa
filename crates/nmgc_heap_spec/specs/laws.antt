pub mod Births
pub mod Changes
pub mod CommandLaws
pub mod Common
pub mod Decoding
pub mod Headers
pub mod Kinds
pub mod Meanings
pub mod Moving
pub mod NodeChanges
pub mod Roots
pub mod Slots
pub mod Tracking
pub mod Written
pub mod Zeros
mod Vocabulary
