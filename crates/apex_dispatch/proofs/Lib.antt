pub mod Accepted
pub mod Steps
pub mod MachineSteps
pub mod Replays
