pub mod Fields
pub mod Heaps
pub mod Marking
pub mod Reports
pub mod Sets
pub mod Stores
pub mod Watching
pub mod laws
