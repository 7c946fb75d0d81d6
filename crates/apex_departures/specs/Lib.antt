pub mod Terms
pub mod Lines
pub mod Shown
pub mod Why
pub mod Pages
pub mod Explained
pub mod Ends
