pub mod Checked
pub mod Sample
