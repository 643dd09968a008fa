pub mod FieldLines
pub mod FieldReading
pub mod FieldTraces
pub mod FieldWhole
pub mod laws
