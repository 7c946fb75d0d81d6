pub mod FirstPassing
pub mod TheLeast
pub mod Queues
pub mod NextRelease
pub mod Urgency
pub mod States
pub mod Stamps
