pub mod Lists
pub mod Owners
pub mod Timed
pub mod Queued
pub mod State
