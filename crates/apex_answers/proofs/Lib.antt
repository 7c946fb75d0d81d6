pub mod LastEntries
pub mod Shortest
pub mod Slowest
