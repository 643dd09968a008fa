pub mod Frames
pub mod Heap
pub mod Ready
pub mod Shapes
pub mod Waiting
pub mod laws
