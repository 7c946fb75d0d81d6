-- The texts of names and statuses, and the listing.
pub mod Texts
pub mod Status
pub mod Listing
