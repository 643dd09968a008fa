pub mod EventTexts
pub mod Events
pub mod Queues
pub mod Replaced
pub mod Sessions
