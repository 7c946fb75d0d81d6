pub mod Exits
pub mod FrontLines
pub mod Requests
pub mod Runs
pub mod Statuses
pub mod Words
