pub mod Crews
pub mod Marking
pub mod Merging
pub mod Naming
pub mod Orders
pub mod Rules
pub mod Same
pub mod Scans
pub mod Stops
pub mod Tied
pub mod Trying
mod Vocabulary
