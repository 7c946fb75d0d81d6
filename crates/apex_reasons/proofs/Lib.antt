mod Decided
mod Services
mod Moved
mod Caused
mod Reasoned
