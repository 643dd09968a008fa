pub mod CheckerLaws
pub mod Each
pub mod LineReads
pub mod NameLaws
pub mod NumberReads
pub mod TokenReads
