pub mod Deeds
pub mod Works
pub mod Situations
pub mod Kernel
