pub mod Listings
pub mod Endings
pub mod LintEndings
