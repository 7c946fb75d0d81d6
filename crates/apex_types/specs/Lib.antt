-- The values in the terms of every page: limits, modes, calls, names, numbers, and lists of places.
pub mod Terms
pub mod Limits
pub mod Modes
pub mod Calls
pub mod Name
pub mod Numbers
pub mod Places
pub mod Messages
