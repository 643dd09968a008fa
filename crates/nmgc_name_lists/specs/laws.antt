pub mod Order
pub mod Spans
mod Vocabulary
