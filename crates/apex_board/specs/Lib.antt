pub mod Fronts
pub mod Access
pub mod Cells
pub mod Boards
