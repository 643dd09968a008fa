pub mod SmallHeap
pub mod Stood
mod Vocabulary
