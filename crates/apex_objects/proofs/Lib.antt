pub mod Digits
pub mod Listed
pub mod ObjectsOf
pub mod ReadBack
pub mod Words
