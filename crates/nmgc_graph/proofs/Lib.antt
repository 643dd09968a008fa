pub mod Changes
pub mod Closings
pub mod Filing
pub mod Follows
pub mod Kepts
pub mod Lent
pub mod Lives
pub mod Searches
pub mod Weaks
mod Vocabulary
