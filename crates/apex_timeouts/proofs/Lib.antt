pub mod Orders
pub mod Instants
pub mod Fronts
