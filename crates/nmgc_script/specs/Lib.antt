pub mod Parts
pub mod Printing
pub mod Reading
pub mod Results
pub mod Spelling
pub mod laws
