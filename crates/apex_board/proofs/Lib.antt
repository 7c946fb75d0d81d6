pub mod Prefixes
pub mod Openings
pub mod Keeps
pub mod Views
pub mod Words
