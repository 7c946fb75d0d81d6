-- Proofs of the choices of a paced situation.
pub mod Counted
pub mod Same
pub mod Short
