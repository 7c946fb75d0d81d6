pub mod Lines
pub mod Places
pub mod Ahead
