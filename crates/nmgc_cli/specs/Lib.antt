pub mod Bench
pub mod Claimed
pub mod Consequences
pub mod Output
pub mod Parts
pub mod laws
