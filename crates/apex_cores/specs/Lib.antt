pub mod Runs
pub mod Works
pub mod Threads
pub mod Plans
pub mod Starts
