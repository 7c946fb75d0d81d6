pub mod Endings
pub mod RunEndings
