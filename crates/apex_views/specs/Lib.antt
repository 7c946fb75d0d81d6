pub mod Faults
pub mod Rows
pub mod Departures
pub mod Plans
pub mod Paced
pub mod Shows
