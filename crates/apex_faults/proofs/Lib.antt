pub mod Further
pub mod Mendings
pub mod Trees
