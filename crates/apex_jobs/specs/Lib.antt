pub mod Items
pub mod Rounds
