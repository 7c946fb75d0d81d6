-- Proofs of the search of a table under a pace.
pub mod Along
pub mod FormRestored
pub mod FormSteps
pub mod SameFacts
pub mod Says
pub mod Schedules
pub mod Shifted
pub mod Starting
pub mod Stepping
pub mod Narrower
pub mod Censuses
pub mod Striking
pub mod Responses
