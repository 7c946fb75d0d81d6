-- The warnings of a table: what a table that is read can hardly mean (this profile).
pub mod Terms
pub mod Calls
pub mod Acts
pub mod Jobs
pub mod Owning
pub mod ProcessWarnings
pub mod StepWarnings
pub mod Objects
pub mod Cores
pub mod Warnings
pub mod Texts
pub mod Reasons
pub mod WarningWords
