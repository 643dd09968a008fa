pub mod Begins
pub mod Leading
pub mod Lines
pub mod Pausing
pub mod Rests
pub mod Rounds
pub mod SliceEnds
pub mod Stops
