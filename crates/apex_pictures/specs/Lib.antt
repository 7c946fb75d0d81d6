pub mod Excerpts
pub mod Axes
pub mod Rows
pub mod Looks
pub mod Svg
pub mod Laws
