pub mod Beginning
pub mod Marker
pub mod Seen
pub mod Stopped
pub mod Tie
pub mod Work
pub mod laws
