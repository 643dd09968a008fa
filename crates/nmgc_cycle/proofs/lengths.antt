pub mod Few
pub mod FullFew
pub mod Measures
pub mod RoundFew
pub mod StopFew
