pub mod Heaps
pub mod Rule
pub mod Worlds
