pub mod Common
pub mod Gathering
pub mod Slots
pub mod Tags
mod Vocabulary
