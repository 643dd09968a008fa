pub mod Commands
pub mod Common
pub mod Ending
pub mod Handing
pub mod Listed
pub mod Lives
pub mod MarkedOnce
pub mod Marking
pub mod Openings
pub mod Runs
pub mod ScanReads
pub mod Scans
pub mod Steady
pub mod Turns
mod Vocabulary
