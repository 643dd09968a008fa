pub mod Listing
pub mod NoteLaws
pub mod StartLaws
pub mod FoundLaws
pub mod RootLaws
pub mod Conditions
pub mod Allows
pub mod PlacingLaws
pub mod ForwardLaws
pub mod WriteLaws
pub mod Assembly
pub mod Final
pub mod PromotedLaws
pub mod AllocationLaws
pub mod Stops
mod Vocabulary
