pub mod FaultPlaces
pub mod Ranges
