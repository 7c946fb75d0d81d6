pub mod Written
pub mod Lasts
