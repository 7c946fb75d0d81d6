pub mod Rows
pub mod CallBack
pub mod Known
