pub mod Programs
pub mod Reports
pub mod Rounds
