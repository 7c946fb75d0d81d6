-- Proofs of the laws of a pace.
pub mod Within
pub mod Idle
pub mod Cores
pub mod Eager
pub mod Ends
pub mod Tighter
pub mod Times
pub mod First
pub mod Over
