pub mod Counted
pub mod SlicesWhole
pub mod TracksShown
pub mod Arrowed
pub mod Plain
pub mod Copies
pub mod Numbers
