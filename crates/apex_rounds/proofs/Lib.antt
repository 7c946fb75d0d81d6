-- Proofs of the runs at a pace.
pub mod Makes
pub mod Counted
pub mod Parts
