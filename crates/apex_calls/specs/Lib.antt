pub mod Terms
pub mod Catalogue
pub mod Parts
pub mod CallText
pub mod Lines
