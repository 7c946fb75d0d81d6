pub mod Windows
pub mod Schedules
pub mod Showings
