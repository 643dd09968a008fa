pub mod Ready
pub mod Shapes
pub mod Waiting
