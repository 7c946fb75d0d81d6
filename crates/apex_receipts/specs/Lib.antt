pub mod Notes
pub mod Rules
pub mod Receipts
