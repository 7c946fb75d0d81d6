pub mod Coursed
pub mod Drawn
pub mod Followed
