pub mod Nexts
pub mod Steps
pub mod Printed
pub mod Rising
