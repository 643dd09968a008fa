pub mod Interval
pub mod Known
pub mod Order
pub mod Pieces
pub mod Reach
pub mod World
pub mod Written
pub mod laws
