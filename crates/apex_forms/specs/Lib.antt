-- The canonical form of a paced situation, and its words.
pub mod Terms
pub mod Codes
pub mod Records
pub mod Objects
pub mod Parts
pub mod Stored
pub mod Forms
