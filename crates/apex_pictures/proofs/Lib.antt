pub mod Said
pub mod Times
pub mod Apart
pub mod Joined
pub mod Numbers
pub mod Room
pub mod Eventless
