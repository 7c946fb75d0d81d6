pub mod Counting
pub mod Running
pub mod Rows
pub mod Closing
pub mod Crossing
pub mod Asking
pub mod Handing
