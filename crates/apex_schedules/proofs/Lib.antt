-- Proofs about the texts of schedules.
pub mod Items
pub mod Parts
pub mod Printed
pub mod ReadBack
pub mod Fewest
pub mod Words
pub mod Levels
pub mod Taken
pub mod Plain
