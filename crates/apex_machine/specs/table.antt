-- The partition table, and what is said of it.
pub mod Profiles
pub mod Table
