-- What the system of a test does.
pub mod Jugs
