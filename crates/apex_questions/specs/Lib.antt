pub mod Facts
pub mod Words
