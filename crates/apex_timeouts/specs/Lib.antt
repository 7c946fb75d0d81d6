pub mod Timeline
pub mod Timers
