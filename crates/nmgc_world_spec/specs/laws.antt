pub mod Common
pub mod Orders
mod Vocabulary
