-- The situation of words, and the laws of canonical forms and their words.
pub mod Terms
pub mod Values
pub mod Records
pub mod Objects
pub mod Restored
pub mod Copied
pub mod Reached
pub mod Formed
pub mod Laws
