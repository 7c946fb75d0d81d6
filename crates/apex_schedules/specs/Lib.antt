-- The texts of schedules, their items and their events.
pub mod Terms
pub mod Schedule
pub mod Printing
pub mod Groups
pub mod Readings
