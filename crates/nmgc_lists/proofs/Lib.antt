mod CellsMemory
pub mod Queues
mod Vocabulary
