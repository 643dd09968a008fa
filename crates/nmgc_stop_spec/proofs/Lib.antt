pub mod RoomLaws
pub mod YoungHeap
mod Vocabulary
