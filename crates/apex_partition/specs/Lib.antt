pub mod Standing
pub mod Headline
pub mod Seats
pub mod Steps
pub mod Forward
