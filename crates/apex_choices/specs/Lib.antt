-- The events of a situation at a pace.
pub mod Terms
pub mod Counts
pub mod Choices
