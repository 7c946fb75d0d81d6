-- A table under a pace as a system to search.
pub mod Terms
pub mod Facts
pub mod Steps
pub mod Answers
pub mod Laws
pub mod Census
pub mod Worst
