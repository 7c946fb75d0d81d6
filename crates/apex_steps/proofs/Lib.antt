-- Proofs about sessions.
pub mod Marks
pub mod Parts
pub mod Said
pub mod Heard
pub mod Talks
pub mod Skipping
pub mod Served
pub mod NewEntries
pub mod MarksLeft
pub mod Written
