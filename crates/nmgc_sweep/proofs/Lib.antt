pub mod Begins
pub mod Going
pub mod Judged
pub mod Listed
pub mod Lists
pub mod Padded
pub mod Steps
mod Vocabulary
