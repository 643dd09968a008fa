pub mod Bare
pub mod Closing
pub mod Marks
pub mod Search
pub mod Waiting
pub mod laws
