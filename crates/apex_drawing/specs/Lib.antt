pub mod Courses
pub mod Styles
pub mod Pictures
pub mod Drawing
pub mod Pages
