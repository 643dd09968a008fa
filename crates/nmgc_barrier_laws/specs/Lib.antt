pub mod Barrier
pub mod Cycle
pub mod Due
pub mod FieldCycle
pub mod Hybrid
pub mod Lax
pub mod Stored
pub mod laws
