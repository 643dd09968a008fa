pub mod Order
pub mod Room
pub mod Spans
pub mod laws
