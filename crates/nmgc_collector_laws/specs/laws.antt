pub mod Common
pub mod Gathered
pub mod Longer
pub mod Openings
pub mod Placed
pub mod Reading
pub mod Registers
pub mod Remembering
pub mod Replays
pub mod Rests
pub mod Roots
pub mod Workers
mod Vocabulary
