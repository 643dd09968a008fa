pub mod Listing
pub mod NameTable
pub mod Sweeper
pub mod Work
pub mod Statements
pub mod laws
pub mod Seen
pub mod Sweeping
