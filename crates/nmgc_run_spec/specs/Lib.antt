pub mod AfterRound
pub mod AtStop
pub mod Heap
pub mod Lawful
pub mod Run
pub mod Terms
