pub mod Forms
pub mod Strings
