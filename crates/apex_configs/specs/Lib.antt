pub mod Objects
pub mod Tables
pub mod Texts
