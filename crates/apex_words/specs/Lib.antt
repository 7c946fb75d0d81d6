pub mod Terms
pub mod Fault
pub mod Subjects
pub mod Outcome
pub mod Words
