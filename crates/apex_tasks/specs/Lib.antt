pub mod Words
pub mod Faults
pub mod Numbers
pub mod Windows
pub mod Questions
pub mod Names
pub mod Lints
pub mod Tasks
