pub mod Ends
pub mod Searches
