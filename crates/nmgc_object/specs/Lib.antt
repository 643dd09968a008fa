pub mod Fields
pub mod FinQueue
pub mod Layouts
pub mod Words
pub mod laws
