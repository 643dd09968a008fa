pub mod cycles
pub mod lengths
pub mod lists
pub mod rounds
pub mod sessions
pub mod starts
pub mod stops
mod Vocabulary
