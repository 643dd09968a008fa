pub mod Closing
pub mod Facts
pub mod Machine
pub mod Run
pub mod Scan
pub mod State
pub mod laws
