pub mod Changing
pub mod Layouts
pub mod Rounds
