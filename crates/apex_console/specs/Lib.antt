pub mod Faults
pub mod Reports
pub mod Schedule
pub mod Words
pub mod Streams
