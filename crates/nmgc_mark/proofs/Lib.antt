pub mod Alone
pub mod Begins
pub mod Fields
pub mod Growth
pub mod Names
pub mod OneMark
pub mod Queues
pub mod Reached
pub mod Roots
pub mod Rooms
pub mod Scanning
pub mod Ties
pub mod Words
mod Vocabulary
