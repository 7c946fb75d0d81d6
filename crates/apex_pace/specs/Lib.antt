-- How fast the cores are and how long work takes.
pub mod Terms
pub mod Pace
pub mod First
pub mod Laws
