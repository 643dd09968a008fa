pub mod Memory
pub mod Spaced
pub mod Spaces
pub mod Streams
pub mod Text
pub mod laws
