pub mod Answers
pub mod Desks
pub mod Encoding
pub mod Levels
pub mod Parts
pub mod Paths
pub mod Searches
pub mod Systems
