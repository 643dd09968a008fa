pub mod Reports
pub mod Wholes
