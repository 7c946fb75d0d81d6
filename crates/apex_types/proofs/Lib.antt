pub mod Places
pub mod Digits
