pub mod Holds
pub mod Leaves
pub mod Limits
pub mod Reachable
pub mod Shape
pub mod Stored
pub mod laws
