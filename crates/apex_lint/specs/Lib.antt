-- The report on a table's text (this profile).
pub mod Terms
pub mod Reports
