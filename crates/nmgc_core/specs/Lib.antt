pub mod Finding
pub mod Sound
