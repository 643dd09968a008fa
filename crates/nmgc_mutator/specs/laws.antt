pub mod Common
pub mod Lists
pub mod Refilled
pub mod Starts
mod Vocabulary
