pub mod Fitting
pub mod Operands
pub mod Packed
