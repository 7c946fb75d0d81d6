pub mod Terms
pub mod Texts
pub mod Words
pub mod Places
pub mod Counts
pub mod Instants
pub mod Moments
pub mod Laws
