pub mod Neighbours
pub mod Links
pub mod Chains
pub mod Placing
pub mod Sorted
