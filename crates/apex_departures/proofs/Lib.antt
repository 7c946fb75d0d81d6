pub mod OnParts
pub mod Columns
pub mod Following
pub mod Numbered
pub mod Endings
pub mod ThreeParts
