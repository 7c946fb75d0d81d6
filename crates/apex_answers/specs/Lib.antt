pub mod Texts
pub mod Answers
pub mod Worst
