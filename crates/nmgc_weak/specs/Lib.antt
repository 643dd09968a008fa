pub mod Closes
pub mod Queues
pub mod Resolve
pub mod Rows
pub mod Steps
pub mod Weaks
pub mod laws
