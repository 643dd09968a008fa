pub mod Ran
pub mod Ready
