-- The remarks on a table's text: its faults, or else its warnings (this profile).
pub mod Terms
pub mod Details
pub mod Remarks
