pub mod Empty
pub mod Fresh
pub mod Lists
pub mod NewStops
pub mod News
pub mod Unused
