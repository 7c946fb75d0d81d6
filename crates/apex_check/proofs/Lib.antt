pub mod Named
pub mod Separated
pub mod MoreLines
pub mod Endings
pub mod Apart
pub mod GoesOn
pub mod Told
