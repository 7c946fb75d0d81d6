pub mod Coming
pub mod FirstLines
pub mod LineFeeds
pub mod Windows
pub mod Spaces
pub mod Places
pub mod NearLines
