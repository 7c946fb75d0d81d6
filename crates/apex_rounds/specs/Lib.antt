-- A kernel that runs at a pace.
pub mod Rounds
