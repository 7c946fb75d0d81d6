mod Neighbours
mod Splices
mod Kept
mod Walks
pub mod Places
pub mod Sorted
pub mod Counting
mod Steps
pub mod Walking
