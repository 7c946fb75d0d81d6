-- Rosters, situations and machines that are alike.
pub mod Alike
pub mod AlikeSteps
pub mod Canonical
pub mod StandIns
pub mod Closed
pub mod Claims
pub mod Forms
pub mod Laws
